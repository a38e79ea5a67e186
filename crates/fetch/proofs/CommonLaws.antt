-- Where each channel is a byte, what the masks make of a stored number is that number, with alpha 255 where it has none. Assumes nothing.
use mathlib.Core.Path.{◌≡◌, refl, sym, ap, ap₂, ◌∙◌}
use Prim.Native.Nat.{ℕ, ◌+◌, ◌*◌, ◌/◌, ◌%◌, ◌^◌, ◌<◌}
use native.Mathlib.Nat.{mod-eq_of_lt}
use native.Mathlib.Omega.{arith}
use lib.Count.{count_trailing_zeros}
use lib.Pow.{mod-pow-add}
use Rattle.pixel.specs.Masks.{mask_shift, mask_of, channel_at}
use Rattle.pixel.specs.Round.{round_div}
use Rattle.pixel.specs.Widen.{widened}
use Rattle.pixel.proofs.MaskLaws.{ones_of}
use Rattle.sample.specs.Colour.{channel8, alpha_of, byte_masks, masked}

-- eight bits need no widening
widened_8 : (v : ℕ) → widened 8 v ≡ v
unfolding widened round_div
widened_8 v = omega arith

-- so a mask of eight ones puts its byte before those below
byte_of : (p n : ℕ) → mask_shift (mask_of 8 p) ≡ p → channel8 (mask_of 8 p) n ≡ n / 2 ^ p % 2 ^ 8
unfolding channel8 channel_at
byte_of p n e = ap₂ (λ (w q : ℕ). widened w (n / 2 ^ q % 2 ^ w)) (ones_of 8 p) e ∙ widened_8 _

with_byte : (p n : ℕ) → mask_shift (mask_of 8 p) ≡ p → channel8 (mask_of 8 p) n * 2 ^ p + n % 2 ^ p ≡ n % 2 ^ (8 + p)
with_byte p n e = ap (λ (x : ℕ). x * 2 ^ p + n % 2 ^ p) (byte_of p n e) ∙ sym (mod-pow-add n 8 p)

three : (a b c x y z : ℕ) → c ≡ z → b + z ≡ y → a + y ≡ x → a + b + c ≡ x
three a b c x y z e f g = omega arith

module _ (n : ℕ) where
  colours : channel8 0xFF0000 n * 2 ^ 16 + channel8 0xFF00 n * 2 ^ 8 + channel8 0xFF n ≡ n % 2 ^ 24
  unfolding mask_of count_trailing_zeros
  colours =
      let blue : channel8 0xFF n ≡ n % 2 ^ 8 = omega (arith, byte_of 0 n refl) in
      three _ _ _ _ _ _ blue (with_byte 8 n refl) (with_byte 16 n refl)

  pub masked_opaque : 255 * 2 ^ 24 + n % 2 ^ 24 ≡ masked (byte_masks 0) n
  unfolding masked alpha_of
  masked_opaque = omega (arith, colours)

  pub masked_low : n < 2 ^ 24 → 255 * 2 ^ 24 + n ≡ masked (byte_masks 0) n
  masked_low h = ap (λ (x : ℕ). 255 * 2 ^ 24 + x) (sym (mod-eq_of_lt h)) ∙ masked_opaque

  pub masked_whole : n < 2 ^ 32 → n ≡ masked (byte_masks 0xFF000000) n
  unfolding masked alpha_of mask_of count_trailing_zeros
  masked_whole h = omega (arith, colours, with_byte 24 n refl)
