-- Document 02, item 2, in its own words, over what the contracts cite. That it holds is `rop4_order` in proofs/Rop4OrderLaws.antt.
use Rattle.std.specs.Prelude.{◌≡◌, List, ℕ, ◌+◌, ◌*◌, ◌%◌, ◌^◌, ◌≤◌, ◌<◌}
use Rattle.std.specs.Int.Bits.{bit_and, bit_or}
use Rattle.words.specs.Bytes.{byte_at, le32}
use Rattle.region.specs.declared.Target.{Target}
use Rattle.region.specs.Exact.{Covers}
use Rattle.pixel.specs.Raster.{raster_pixel}
use Rattle.emr.specs.Types.{mask_blt}
use Rattle.judge.specs.declared.Action.TheVariants.{Masked}
use Rattle.judge.specs.Operation.{foreground, background, rop}
use Rattle.judge.specs.Record.{record_of}
use Rattle.memory.specs.Memory.{Memory}
use Rattle.meaning.specs.Meaning.{Meaning, meaning_of, target_in}
use Rattle.player.specs.Calls.{Play, play_outcome}
use Rattle.player.specs.Pixels.{Bytes, pixel, source_at, bit_at}

-- wingdi.h: #define MAKEROP4(fore,back) (DWORD)((((back) << 8) & 0xFF000000) | (fore)); what a shift moves past 32 bits is lost
abbrev pub make_rop4 : (fore back : ℕ) → ℕ
make_rop4 fore back = bit_or (bit_and (back * 256 % 2 ^ 32) 0xFF000000) fore

-- what the mask blit p, which means k, made of the pixel at x, y of its clipped target t; bytes 42 and 43 are ROP4's third and fourth
pub record Blitted (width : ℕ) (p : Play) (k : Meaning) (t : Target) (before after : List ℕ) (x y : ℕ) : Type 0 where
  pub one_or_zero : bit_at k t x y ≤ 1
  pub at_one : bit_at k t x y ≡ 1
      → pixel width after x y ≡ raster_pixel (byte_at p.bytes 42) p.terms.brush (source_at k t x y) (pixel width before x y)
  pub at_zero : bit_at k t x y ≡ 0
      → pixel width after x y ≡ raster_pixel (byte_at p.bytes 43) p.terms.brush (source_at k t x y) (pixel width before x y)

pub record Rop4Order : Type 0 where
  -- "MAKEROP4 .. puts the foreground in bits 16 to 23 and the background in bits 24 to 31": what it makes of two ternary operations is read back
  -- as the bytes that each has as a plain ROP. Those have 24 bits; what fore has above them falls into the background
  pub made_foreground : (fore back : ℕ) → foreground (make_rop4 fore back) ≡ rop fore
  pub made_background : (fore back : ℕ) → fore < 2 ^ 24 → background (make_rop4 fore back) ≡ rop back
  -- "From now on the third byte is the foreground, the fourth the background": of every field, and so of every record of the type, accepted or not
  pub third : (s : List ℕ) (at : ℕ) → Bytes s → foreground (le32 s at) ≡ byte_at s (at + 2)
  pub fourth : (s : List ℕ) (at : ℕ) → Bytes s → background (le32 s at) ≡ byte_at s (at + 3)
  pub decoded : (s : List ℕ) → Bytes s → le32 s 0 ≡ mask_blt → (record_of s).action ≡ Masked (byte_at s 42) (byte_at s 43)
  -- "Condition 2 reads with this order.": of every pixel of the clipped target
  pub condition2 : (width height : ℕ) (p : Play) (m : Memory) → Bytes p.bytes → le32 p.bytes 0 ≡ mask_blt
      → (play_outcome width height p m).status ≡ 0
      → (x y : ℕ) → Covers (target_in width height (meaning_of p.bytes) p.terms.clip) x y
      → Blitted width p (meaning_of p.bytes) (target_in width height (meaning_of p.bytes) p.terms.clip) m.surface
      (play_outcome width height p m).after.surface x y
