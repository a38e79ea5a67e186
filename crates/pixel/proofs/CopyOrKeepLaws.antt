-- Bit (4·b + 2·s + t) of 0xCC is s, and of 0xAA it is t, at each of the eight: so each colour bit is the source's, or the target's.
use mathlib.Core.Path.{◌≡◌, refl, sym, ◌∙◌}
use Prim.Native.Nat.{ℕ, ◌+◌, ◌*◌, ◌<◌}
use Rattle.pixel.specs.Bits.{bit}
use Rattle.pixel.specs.Raster.{raster_index, raster}
use Rattle.pixel.specs.CopyOrKeep.{CopyOrKeep}
use Rattle.pixel.proofs.BitLaws.{bit_lt, on_bits, low_bits, from_ext}

copied : (b s t : ℕ) → b < 2 → s < 2 → t < 2 → bit 0xCC (4 * b + 2 * s + t) ≡ s
unfolding bit
copied = on_bits (λ (b s t : ℕ). bit 0xCC (4 * b + 2 * s + t) ≡ s) refl refl refl refl refl refl refl refl

kept : (b s t : ℕ) → b < 2 → s < 2 → t < 2 → bit 0xAA (4 * b + 2 * s + t) ≡ t
unfolding bit
kept = on_bits (λ (b s t : ℕ). bit 0xAA (4 * b + 2 * s + t) ≡ t) refl refl refl refl refl refl refl refl

pub copy_or_keep : CopyOrKeep
unfolding raster raster_index
copy_or_keep = record {
  copies = λ b s t.
      from_ext 24 _ (bit s) (λ k h. copied (bit b k) (bit s k) (bit t k) (bit_lt b k) (bit_lt s k) (bit_lt t k)) ∙ sym (low_bits 24 s);
  keeps = λ b s t.
      from_ext 24 _ (bit t) (λ k h. kept (bit b k) (bit s k) (bit t k) (bit_lt b k) (bit_lt s k) (bit_lt t k)) ∙ sym (low_bits 24 t);
}
