-- Item 2 of document 02: the macro's two operands have no bit in common, a field's bytes are its digits to the base 256, and a mask blit's rule
-- is what its field decodes to; the rest is condition 2. Assumes nothing.
use mathlib.Core.Path.{◌≡◌, ap, ap₂, ◌∙◌}
use mathlib.Core.List.{List}
use Prim.Native.Nat.{ℕ, ◌+◌, ◌*◌, ◌/◌, ◌%◌, ◌^◌, ◌≤◌, ◌<◌}
use native.Mathlib.Omega.{arith}
use lib.Bits.{bit_and, bit_or, and_high, or_shifted, or_shr, or_mod, or_zero_l}
use Rattle.words.specs.Bytes.{byte_at, le, le32}
use Rattle.emr.specs.Types.{mask_blt, row_of}
use Rattle.emr.specs.Fixed.{fields_at}
use Rattle.region.specs.declared.Target.{Target}
use Rattle.region.specs.Exact.{Covers}
use Rattle.judge.specs.declared.Action.{Action}
use Rattle.judge.specs.declared.Action.TheVariants as act
use Rattle.judge.specs.Operation.{foreground, background, rop, action_of}
use Rattle.judge.specs.Record.{record_of}
use Rattle.memory.specs.Memory.{Memory}
use Rattle.composite.specs.declared.Rule.{Rule}
use Rattle.composite.specs.declared.Rule.TheVariants.{Masked}
use Rattle.composite.specs.Paints.{painted_by}
use Rattle.meaning.specs.Meaning.{Meaning, rule_of, meaning_of, target_in}
use Rattle.meaning.proofs.MaskBitLaws.{one_or_zero}
use Rattle.player.specs.Calls.{Play, play_outcome}
use Rattle.player.specs.Pixels.{Bytes, pixel, source_at, bit_at}
use Rattle.player.specs.Rop4Order.{make_rop4, Blitted, Rop4Order}
use Rattle.player.proofs.Conditions.{condition2}

-- ---- the macro

module _ (fore back : ℕ) where
  high : bit_and (back * 256 % 2 ^ 32) 0xFF000000 ≡ rop back * 2 ^ 24
  high = and_high (back * 256 % 2 ^ 32) 8 24 ∙ omega arith

  made : make_rop4 fore back ≡ bit_or (rop back * 2 ^ 24) fore
  made = ap (λ (n : ℕ). bit_or n fore) high

  below : rop back * 2 ^ 24 / 2 ^ 16 % 2 ^ 8 ≡ 0
  below = omega arith

  made_foreground : foreground (make_rop4 fore back) ≡ rop fore
  made_foreground =
      ap foreground made ∙ ap (λ (n : ℕ). n % 256) (or_shr (rop back * 2 ^ 24) fore 16) ∙ or_mod (rop back * 2 ^ 24 / 2 ^ 16) (fore / 2 ^ 16) 8
      ∙ ap (λ (n : ℕ). bit_or n (rop fore)) below ∙ or_zero_l (rop fore)

  made_background : fore < 2 ^ 24 → background (make_rop4 fore back) ≡ rop back
  made_background l = ap background (made ∙ or_shifted (rop back) 24 fore l) ∙ omega arith

-- ---- the bytes

third : (s : List ℕ) (at : ℕ) → Bytes s → foreground (le32 s at) ≡ byte_at s (at + 2)
unfolding le
third s at b = omega (arith, b (at + 0), b (at + 1), b (at + 2), b (at + 3))

fourth : (s : List ℕ) (at : ℕ) → Bytes s → background (le32 s at) ≡ byte_at s (at + 3)
unfolding le
fourth s at b = omega (arith, b (at + 0), b (at + 1), b (at + 2), b (at + 3))

-- ---- the record

decoded : (s : List ℕ) → Bytes s → le32 s 0 ≡ mask_blt → (record_of s).action ≡ act.Masked (byte_at s 42) (byte_at s 43)
unfolding record_of fields_at row_of
decoded s b e =
    ap (λ (type : ℕ). action_of (row_of type).form (le32 s (row_of type).at.operation)) e ∙ ap₂ act.Masked (third s 40 b) (fourth s 40 b)

rule : (s : List ℕ) → Bytes s → le32 s 0 ≡ mask_blt → (brush : ℕ) → (meaning_of s).rule brush ≡ Masked (byte_at s 42) (byte_at s 43) brush
unfolding meaning_of
rule s b e brush = ap (λ (a : Action). rule_of a brush) (decoded s b e)

bit : (s : List ℕ) (i j : ℕ) → (meaning_of s).bit i j ≤ 1
unfolding meaning_of
bit s i j = one_or_zero s (record_of s) i j

-- ---- the play

module _ (w h : ℕ) (p : Play) (m : Memory) (b : Bytes p.bytes) (e : le32 p.bytes 0 ≡ mask_blt) (z : (play_outcome w h p m).status ≡ 0) (x y : ℕ) where
  abbrev k : Meaning
  k = meaning_of p.bytes

  abbrev t : Target
  t = target_in w h k p.terms.clip

  -- by the record's own bytes, at a mask bit
  abbrev by : ℕ → ℕ
  by bit = painted_by (Masked (byte_at p.bytes 42) (byte_at p.bytes 43) p.terms.brush) (source_at k t x y) bit (pixel w m.surface x y)

  painted : Covers t x y → pixel w (play_outcome w h p m).after.surface x y ≡ by (bit_at k t x y)
  painted c =
      ((condition2 w h p m).accepted z).pixels.inside x y c
      ∙ ap (λ (r : Rule). painted_by r (source_at k t x y) (bit_at k t x y) (pixel w m.surface x y)) (rule p.bytes b e p.terms.brush)

  blitted : Covers t x y → Blitted w p k t m.surface (play_outcome w h p m).after.surface x y
  blitted c = record {
    one_or_zero = bit p.bytes _ _;
    at_one = λ o. painted c ∙ ap by o;
    at_zero = λ o. painted c ∙ ap by o;
  }

pub rop4_order : Rop4Order
rop4_order = record {
  made_foreground = made_foreground;
  made_background = made_background;
  third = third;
  fourth = fourth;
  decoded = decoded;
  condition2 = blitted;
}
