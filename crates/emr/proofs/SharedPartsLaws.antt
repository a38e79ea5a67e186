-- Two parts have a byte in common exactly where the later start lies before the earlier end, and that start is then such a byte; the six
-- pairs are all pairs of different parts. Assumes nothing.
use mathlib.Core.Path.{◌≡◌, refl, sym, ◌∙◌}
use mathlib.Core.Bool.{Bool, true, false, true≢false, ◌||◌}
use Prim.Native.Nat.{ℕ, ◌+◌, ◌≤◌, ◌<◌, min, max}
use native.Mathlib.Omega.{arith}
use borrow.Author.Tests.{ltb-true, lt-ltb}
use Rattle.words.proofs.ChoiceLaws.{or_some, or_by_first, or_by_last}
use Rattle.std.specs.Prelude.{Option, Some, None}
use Rattle.emr.specs.declared.PictureFields.{PictureFields}
use Rattle.emr.specs.declared.Fields.{Fields}
use Rattle.emr.specs.SharedParts.{share, share_within, share_between, shared_parts, Part, source_header, source_bits, mask_header, mask_bits, Range, parts, header_range, bits_range, parts_of}
use Rattle.emr.specs.SharedParts.{Holds, Common, Apart, SaysRefusal21}

-- the test of two parts
abbrev test : (p q : Range) → Bool
test p q = share p.at p.size q.at q.size

module _ (p q : Range) where
  -- a byte in both makes the test true
  byte_shared : (k : ℕ) → Holds p k → Holds q k → test p q ≡ true
  byte_shared k h l =
      let a : p.at ≤ k = h.from in
      let b : k < p.at + p.size = h.to in
      let c : q.at ≤ k = l.from in
      let d : k < q.at + q.size = l.to in
      lt-ltb (max p.at q.at) (min (p.at + p.size) (q.at + q.size)) (omega arith)

-- where the test of two different parts of present pictures is true, the later start is a byte of both
module _ (of : Part → Range) (one other : Part) (different : one ≡ other → ⊥) where
  common : (of one).present ≡ true → (of other).present ≡ true → test (of one) (of other) ≡ true → Common of
  common u v e =
      let h : max (of one).at (of other).at < min ((of one).at + (of one).size) ((of other).at + (of other).size) = ltb-true _ _ e in
      record {
        one = one;
        other = other;
        different = different;
        place = max (of one).at (of other).at;
        in_one = record { present = u; from = omega arith; to = omega arith };
        in_other = record { present = v; from = omega arith; to = omega arith };
      }

-- the parts of a source and of a mask
module _ (a b : Option PictureFields) where
  abbrev of : Part → Range
  of = parts (header_range a) (bits_range a) (header_range b) (bits_range b)

-- ---- from the test to the two parts

within : (a b : Option PictureFields) → share_within a ≡ true → Common (of a b)
within None b e = absurd (true≢false (sym e))
within (Some p) b e = common (of (Some p) b) source_header source_bits (λ d. true≢false cc) refl refl e

within_mask : (a b : Option PictureFields) → share_within b ≡ true → Common (of a b)
within_mask a None e = absurd (true≢false (sym e))
within_mask a (Some q) e = common (of a (Some q)) mask_header mask_bits (λ d. true≢false cc) refl refl e

between : (a b : Option PictureFields) → share_between a b ≡ true → Common (of a b)
between None b e = absurd (true≢false (sym e))
between (Some p) None e = absurd (true≢false (sym e))
between (Some p) (Some q) e =
    let o : Part → Range = of (Some p) (Some q) in
    let headers : Bool = test (o source_header) (o mask_header) in
    let header_bits : Bool = test (o source_header) (o mask_bits) in
    let bits_header : Bool = test (o source_bits) (o mask_header) in
    let both_bits : Bool = test (o source_bits) (o mask_bits) in
    or_some (headers || header_bits || bits_header) both_bits
    (or_some (headers || header_bits) bits_header
    (or_some headers header_bits (common o source_header mask_header (λ d. true≢false cc) refl refl)
    (common o source_header mask_bits (λ d. true≢false cc) refl refl))
    (common o source_bits mask_header (λ d. true≢false cc) refl refl))
    (common o source_bits mask_bits (λ d. true≢false cc) refl refl) e

-- ---- from the two parts to the test

module _ (k : ℕ) where
  own_pair : (a : Option PictureFields) → Holds (header_range a) k → Holds (bits_range a) k → share_within a ≡ true
  own_pair None h l = absurd (true≢false (sym h.present))
  own_pair (Some p) h l = byte_shared _ _ k h l

  headers_pair : (a b : Option PictureFields) → Holds (header_range a) k → Holds (header_range b) k → share_between a b ≡ true
  headers_pair None b h l = absurd (true≢false (sym h.present))
  headers_pair (Some p) None h l = absurd (true≢false (sym l.present))
  headers_pair (Some p) (Some q) h l = or_by_first _ _ (or_by_first _ _ (or_by_first _ _ (byte_shared _ _ k h l)))

  header_bits_pair : (a b : Option PictureFields) → Holds (header_range a) k → Holds (bits_range b) k → share_between a b ≡ true
  header_bits_pair None b h l = absurd (true≢false (sym h.present))
  header_bits_pair (Some p) None h l = absurd (true≢false (sym l.present))
  header_bits_pair (Some p) (Some q) h l = or_by_first _ _ (or_by_first _ _ (or_by_last _ _ (byte_shared _ _ k h l)))

  bits_header_pair : (a b : Option PictureFields) → Holds (bits_range a) k → Holds (header_range b) k → share_between a b ≡ true
  bits_header_pair None b h l = absurd (true≢false (sym h.present))
  bits_header_pair (Some p) None h l = absurd (true≢false (sym l.present))
  bits_header_pair (Some p) (Some q) h l = or_by_first _ _ (or_by_last _ _ (byte_shared _ _ k h l))

  bits_pair : (a b : Option PictureFields) → Holds (bits_range a) k → Holds (bits_range b) k → share_between a b ≡ true
  bits_pair None b h l = absurd (true≢false (sym h.present))
  bits_pair (Some p) None h l = absurd (true≢false (sym l.present))
  bits_pair (Some p) (Some q) h l = or_by_last _ _ (byte_shared _ _ k h l)

module _ (f : Fields) where
  some : shared_parts f ≡ true → Common (parts_of f)
  unfolding shared_parts
  some =
      or_some (share_within f.source || share_within f.mask) (share_between f.source f.mask)
      (or_some (share_within f.source) (share_within f.mask) (within f.source f.mask) (within_mask f.source f.mask))
      (between f.source f.mask)

  by_source : share_within f.source ≡ true → shared_parts f ≡ true
  unfolding shared_parts
  by_source e = or_by_first (share_within f.source || share_within f.mask) _ (or_by_first (share_within f.source) _ e)

  by_mask : share_within f.mask ≡ true → shared_parts f ≡ true
  unfolding shared_parts
  by_mask e = or_by_first (share_within f.source || share_within f.mask) _ (or_by_last (share_within f.source) _ e)

  by_both : share_between f.source f.mask ≡ true → shared_parts f ≡ true
  unfolding shared_parts
  by_both e = or_by_last (share_within f.source || share_within f.mask) _ e

  only : (one other : Part) → (one ≡ other → ⊥) → (k : ℕ) → Holds (parts_of f one) k → Holds (parts_of f other) k → shared_parts f ≡ true
  only source_header source_header d k h l = absurd (d refl)
  only source_header source_bits d k h l = by_source (own_pair k f.source h l)
  only source_header mask_header d k h l = by_both (headers_pair k f.source f.mask h l)
  only source_header mask_bits d k h l = by_both (header_bits_pair k f.source f.mask h l)
  only source_bits source_header d k h l = by_source (own_pair k f.source l h)
  only source_bits source_bits d k h l = absurd (d refl)
  only source_bits mask_header d k h l = by_both (bits_header_pair k f.source f.mask h l)
  only source_bits mask_bits d k h l = by_both (bits_pair k f.source f.mask h l)
  only mask_header source_header d k h l = by_both (headers_pair k f.source f.mask l h)
  only mask_header source_bits d k h l = by_both (bits_header_pair k f.source f.mask l h)
  only mask_header mask_header d k h l = absurd (d refl)
  only mask_header mask_bits d k h l = by_mask (own_pair k f.mask h l)
  only mask_bits source_header d k h l = by_both (header_bits_pair k f.source f.mask l h)
  only mask_bits source_bits d k h l = by_both (bits_pair k f.source f.mask l h)
  only mask_bits mask_header d k h l = by_mask (own_pair k f.mask l h)
  only mask_bits mask_bits d k h l = absurd (d refl)

  pub says_refusal_21 : SaysRefusal21 f
  says_refusal_21 = record { some = some; only = λ c. only c.one c.other c.different c.place c.in_one c.in_other }

  -- where the test fails, no byte lies in two parts
  pub apart : shared_parts f ≡ false → Apart (parts_of f)
  apart e one other d k h l = true≢false (sym (only one other d k h l) ∙ e)
