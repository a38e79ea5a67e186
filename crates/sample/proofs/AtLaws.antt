-- A pixel's row and column lie in the bytes of a header that was passed, and its masks can be read with. Assumes nothing.
use mathlib.Core.Path.{◌≡◌, refl, ap, ◌∙◌}
use mathlib.Core.Bool.{Bool, true, false, cond, not, ◌||◌, ◌&&◌}
use mathlib.Core.List.{List}
use Prim.Native.Nat.{ℕ, ◌+◌, ◌*◌, ◌^◌, ◌≤◌, ◌<◌}
use native.Mathlib.Nat.{mul-le-mul_right}
use native.Mathlib.Omega.{arith}
use lib.Count.{ones, ones_in}
use lib.Dec.{eqb, leb, ltb, lit≤}
use lib.ListN.{length, length-take, length-drop}
use borrow.Author.Tests.{eqb-true, leb-true, not-false}
use Rattle.words.proofs.ChoiceLaws.{or_none, and_both}
use Rattle.pixel.specs.Masks.{mask_width, mask_of, contiguous, is_channel}
use Rattle.pixel.specs.Position.{row_length}
use Rattle.pixel.proofs.MaskLaws.{ones_of}
use Rattle.dib.specs.declared.Masks.{Masks}
use Rattle.dib.specs.declared.Header.{Header}
use Rattle.dib.specs.Header.{has_masks, rows}
use Rattle.dib.specs.HeaderStatus.{bad_channels, bad_overlaps, bad_masks, bits_needed}
use Rattle.sample.specs.Stored.{row_bytes}
use Rattle.sample.specs.Colour.{rgb_masks, masks_in, Channel, Sampled}

-- ---- the row and the column, by what the code computes of them

module _ (h : Header) (bytes : List ℕ) (long m k : ℕ) (e : long ≡ row_length h.width h.bits) (r : m ≡ rows h)
    (l : k < m) (f : bits_needed h ≤ length bytes) where
  pub row_in : (k + 1) * long ≤ length bytes
  unfolding bits_needed
  row_in = rw e (omega (arith, mul-le-mul_right (row_length h.width h.bits) (rw r at l)))

  pub column_in : (line : List ℕ) (column : ℕ) → line ≡ row_bytes bytes long k → column < h.width → (column + 1) * h.bits ≤ length line * 8
  unfolding row_bytes row_length
  column_in line column g i =
      let n : length line ≡ long = ap length g ∙ simp (length-take, length-drop) (omega (arith, row_in)) in
      omega (arith, mul-le-mul_right h.bits i)

-- ---- the masks

no_ones : mask_width 0 ≤ 8
unfolding ones ones_in
no_ones = lit≤ tt

run : (w p : ℕ) → 1 ≤ w → w ≤ 8 → Channel (mask_of w p)
run w p h l = let e = ones_of w p in record { some = omega arith; most = omega arith }

either : (P : ℕ → Type 0) (t : Bool) {a b : ℕ} → P a → P b → P (cond t a b)
either P true p q = p
either P false p q = q

module _ (bits : ℕ) where
  channel : (m : ℕ) → not (is_channel bits m) ≡ false → Channel m
  unfolding is_channel
  channel m e =
      let p = and_both _ (ltb m (2 ^ bits)) (not-false _ e) in
      let q = and_both _ (leb (mask_width m) 8) p.0 in
      let r = and_both (contiguous m) (leb 1 (mask_width m)) q.0 in
      record { some = leb-true _ _ r.1; most = leb-true _ _ q.1 }

  alpha_channel : (m : ℕ) → not (eqb m 0 || is_channel bits m) ≡ false → mask_width m ≤ 8
  alpha_channel m e = go (eqb m 0) refl e
    where
      go : (t : Bool) → eqb m 0 ≡ t → not (t || is_channel bits m) ≡ false → mask_width m ≤ 8
      go true z e = rw (eqb-true m 0 z) no_ones
      go false z e = (channel m e).most

  -- BI_BITFIELDS
  own : (m : Masks) → bad_channels bits m ≡ false → Sampled m
  own m e =
      let a = or_none _ (not (eqb m.alpha 0 || is_channel bits m.alpha)) e in
      let b = or_none _ (not (is_channel bits m.blue)) a.0 in
      let g = or_none (not (is_channel bits m.red)) (not (is_channel bits m.green)) b.0 in
      record { red = channel m.red g.0; green = channel m.green g.1; blue = channel m.blue b.1; alpha = alpha_channel m.alpha a.1 }

  -- BI_RGB
  fixed : (format1 : Bool) → Sampled (rgb_masks bits format1)
  unfolding mask_of
  fixed format1 =
      let five : (p : ℕ) → Channel (mask_of 5 p) = λ p. run 5 p (lit≤ tt) (lit≤ tt) in
      let eight : (p : ℕ) → Channel (mask_of 8 p) = λ p. run 8 p (lit≤ tt) (lit≤ tt) in
      record {
        red = either Channel (eqb bits 16) (five 10) (eight 16);
        green = either Channel (eqb bits 16) (five 5) (eight 8);
        blue = either Channel (eqb bits 16) (five 0) (eight 0);
        alpha = either (λ m. mask_width m ≤ 8) (format1 && eqb bits 32) (eight 24).most no_ones;
      }

pub sampled : (h : Header) (format1 : Bool) → bad_masks h ≡ false → Sampled (masks_in h format1)
unfolding bad_masks
sampled h format1 e = go (has_masks h.compression) e
  where
    go : (t : Bool) → (t && (bad_channels h.bits h.masks || bad_overlaps h.masks)) ≡ false → Sampled (cond t h.masks (rgb_masks h.bits format1))
    go true e = own h.bits h.masks (or_none (bad_channels h.bits h.masks) _ e).0
    go false e = fixed h.bits format1
