-- Document 02, item 5: "Any two parts of the present pictures that have a byte in common are now refused. Refusals: 21". Whole parts are
-- meant, all cbBmi and cbBits bytes as written. Definitions only.
use Rattle.std.specs.Prelude.{◌≡◌, ℕ, ◌+◌, ◌≤◌, ◌<◌, min, max, Bool, true, false, ◌||◌, ltb, Option, Some, None}
use Rattle.emr.specs.declared.PictureFields.{PictureFields}
use Rattle.emr.specs.declared.Fields.{Fields}

-- ---- the test

-- do the parts of n bytes from place a on and of m bytes from place b on have a byte in common? They do where the later start lies before
-- the earlier end; an empty part shares nothing, and parts that only touch share nothing.
abbrev pub share : (a n b m : ℕ) → Bool
share a n b m = ltb (max a b) (min (a + n) (b + m))

-- a present picture's header part and its bits part
abbrev pub share_within : Option PictureFields → Bool
share_within None = false
share_within (Some p) = share p.bmi p.bmi_len p.bits p.bits_len

-- a part of one present picture and a part of another
abbrev pub share_between : (one other : Option PictureFields) → Bool
share_between None other = false
share_between (Some p) None = false
share_between (Some p) (Some q) =
    share p.bmi p.bmi_len q.bmi q.bmi_len || share p.bmi p.bmi_len q.bits q.bits_len
    || share p.bits p.bits_len q.bmi q.bmi_len || share p.bits p.bits_len q.bits q.bits_len

-- 21: all six pairs
unfoldable pub shared_parts : Fields → Bool
shared_parts f = share_within f.source || share_within f.mask || share_between f.source f.mask

-- ---- what the test says, in the request's words

-- the parts that a record can have
pub data Part : Type 0 where
  source_header : Part
  source_bits : Part
  mask_header : Part
  mask_bits : Part

-- a part as written: is its picture present, where it begins, and how many bytes it has
pub record Range : Type 0 where
  pub present : Bool
  pub at : ℕ
  pub size : ℕ

abbrev pub range : (present : Bool) (at size : ℕ) → Range
range present at size = record { present = present; at = at; size = size }

-- which range each part is
abbrev pub parts : (a b c d : Range) → Part → Range
parts a b c d source_header = a
parts a b c d source_bits = b
parts a b c d mask_header = c
parts a b c d mask_bits = d

abbrev pub header_range : Option PictureFields → Range
header_range None = range false 0 0
header_range (Some p) = range true p.bmi p.bmi_len

abbrev pub bits_range : Option PictureFields → Range
bits_range None = range false 0 0
bits_range (Some p) = range true p.bits p.bits_len

abbrev pub parts_of : Fields → Part → Range
parts_of f = parts (header_range f.source) (bits_range f.source) (header_range f.mask) (bits_range f.mask)

-- the byte at place k is one of a present picture's part
pub record Holds (p : Range) (k : ℕ) : Type 0 where
  pub present : p.present ≡ true
  pub from : p.at ≤ k
  pub to : k < p.at + p.size

-- "Any two parts of the present pictures that have a byte in common": two different parts, and the byte's place
pub record Common (of : Part → Range) : Type 0 where
  pub one : Part
  pub other : Part
  pub different : one ≡ other → ⊥
  pub place : ℕ
  pub in_one : Holds (of one) place
  pub in_other : Holds (of other) place

-- no byte lies in two different parts
abbrev pub Apart : (of : Part → Range) → Type 0
Apart of = (one other : Part) → (one ≡ other → ⊥) → (k : ℕ) → Holds (of one) k → Holds (of other) k → ⊥

-- the test is true exactly where two different parts have a byte in common
pub record SaysRefusal21 (f : Fields) : Type 0 where
  pub some : shared_parts f ≡ true → Common (parts_of f)
  pub only : Common (parts_of f) → shared_parts f ≡ true
