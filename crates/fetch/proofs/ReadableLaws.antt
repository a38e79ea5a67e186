-- A header that statuses 8 and 9 let pass has a listed depth, masks of 1 to 8 ones each, and at 24 bits none of its own. Assumes nothing.
use mathlib.Core.Path.{◌≡◌, refl, sym, ◌∙◌}
use mathlib.Core.Bool.{Bool, true, false, ◌||◌, ◌&&◌, and-false, true≢false}
use Prim.Native.Nat.{ℕ}
use lib.Dec.{eqb}
use borrow.Author.Tests.{eqb-true, not-false}
use Rattle.dib.specs.declared.Header.{Header}
use Rattle.dib.specs.Header.{has_masks}
use Rattle.dib.specs.HeaderStatus.{bad_compression, bad_fields, bad_masks}
use Rattle.dib.proofs.HeaderLaws.{sound}
use Rattle.sample.specs.Colour.{byte_masks, masks_in}
use Rattle.sample.proofs.AtLaws.{sampled}
use Rattle.fetch.specs.Fetched.{Readable}

-- BI_BITFIELDS has 16 or 32 bits
no_masks_lem : (compression : ℕ) → bad_compression compression 24 ≡ false → has_masks compression ≡ false
no_masks_lem compression e = go (eqb compression 0) refl (not-false _ e)
  where
    go : (t : Bool) → eqb compression 0 ≡ t → (t || has_masks compression && false) ≡ true → has_masks compression ≡ false
    go true z e = rw (eqb-true compression 0 z)
    go false z e = absurd (true≢false (sym e ∙ and-false (has_masks compression)))

pub readable : (h : Header) (format1 : Bool) → bad_fields h ≡ false → bad_masks h ≡ false → Readable h.bits (masks_in h format1)
readable h format1 f m = record { depth = (sound h f).depth; sampled = λ _. sampled h format1 m; bytes = bytes }
  where
    bytes : h.bits ≡ 24 → masks_in h format1 ≡ byte_masks 0
    bytes e = simp (no_masks_lem h.compression (rw e at (sound h f).compression), e, and-false format1)
