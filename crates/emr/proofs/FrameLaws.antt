-- A picture that status 6 lets pass lies in the record, and an absent one is empty; parts that 21 lets pass are apart. Assumes nothing.
use mathlib.Core.Path.{◌≡◌}
use mathlib.Core.Bool.{false}
use mathlib.Core.List.{List}
use Prim.Native.Nat.{ℕ, ◌+◌, ◌≤◌, zero-le}
use lib.Dec.{ltb, lit<}
use lib.ListN.{length}
use borrow.Author.Tests.{ltb-false}
use Rattle.std.specs.Prelude.{Option, Some, None}
use Rattle.words.proofs.ChoiceLaws.{or_none, given_none}
use Rattle.emr.specs.declared.Offsets.{Offsets}
use Rattle.emr.specs.declared.PictureFields.{PictureFields}
use Rattle.emr.specs.declared.Fields.{Fields}
use Rattle.emr.specs.Fixed.{fields_at}
use Rattle.emr.specs.SharedParts.{header_range, bits_range, shared_parts, parts_of, Apart}
use Rattle.emr.specs.FrameStatus.{outside, bad_parts, any_outside, parts_status}
use Rattle.emr.proofs.SharedPartsLaws.{apart}

-- both parts end by len; those of an absent picture are empty
pub record Inside (len : ℕ) (p : Option PictureFields) : Type 0 where
  pub header : (header_range p).at + (header_range p).size ≤ len
  pub bits : (bits_range p).at + (bits_range p).size ≤ len

inside_of : (len fixed at size : ℕ) → outside len fixed at size ≡ false → at + size ≤ len
inside_of len fixed at size e = ltb-false len (at + size) (or_none (ltb at fixed) (ltb len (at + size)) e).1

parts_inside : (len fixed : ℕ) (p : Option PictureFields) → bad_parts len fixed p ≡ false → Inside len p
parts_inside len fixed None e = record { header = zero-le; bits = zero-le }
parts_inside len fixed (Some p) e =
    let o = or_none (outside len fixed p.bmi p.bmi_len) _ e in
    record { header = inside_of len fixed p.bmi p.bmi_len o.0; bits = inside_of len fixed p.bits p.bits_len o.1 }

pub inside : (s : List ℕ) (at : Offsets) → parts_status s at (fields_at s at) ≡ 0
    → Inside (length s) (fields_at s at).source × Inside (length s) (fields_at s at).mask
unfolding parts_status
inside s at e =
    let o = or_none (bad_parts (length s) at.fixed (fields_at s at).source) _ (given_none 6 _ _ (lit< tt) e).0 in
    (parts_inside _ _ (fields_at s at).source o.0, parts_inside _ _ (fields_at s at).mask o.1)

pub parts_apart : (s : List ℕ) (at : Offsets) (f : Fields) → parts_status s at f ≡ 0 → Apart (parts_of f)
unfolding parts_status
parts_apart s at f e = apart f (given_none 21 (shared_parts f) _ (lit< tt) (given_none 6 (any_outside (length s) at.fixed f) _ (lit< tt) e).1).0
