-- A record's fixed part as fields, signed ones as written. Definitions only. A byte past the record's end reads as 0.
use Rattle.std.specs.Prelude.{ℕ, ◌+◌, Bool, cond, not, ◌&&◌, List, eqb, Option, Some, None}
use Rattle.words.specs.Bytes.{le32}
use Rattle.region.specs.Written.{rectangle_at}
use Rattle.emr.specs.declared.Offsets.{Offsets}
use Rattle.emr.specs.declared.PictureFields.{PictureFields}
use Rattle.emr.specs.declared.Fields.{Fields}

-- "A picture is absent when its four offset and size fields are all zero"
abbrev pub is_present : (bmi bmi_len bits bits_len : ℕ) → Bool
is_present bmi bmi_len bits bits_len = not (eqb bmi 0 && eqb bmi_len 0 && eqb bits 0 && eqb bits_len 0)

-- a picture's corner, usage and four numbers, from where they stand
abbrev pub picture_fields : (s : List ℕ) (corner usage parts : ℕ) → PictureFields
picture_fields s corner usage parts = record {
  x = le32 s corner;
  y = le32 s (corner + 4);
  usage = le32 s usage;
  bmi = le32 s parts;
  bmi_len = le32 s (parts + 4);
  bits = le32 s (parts + 8);
  bits_len = le32 s (parts + 12);
}

-- the picture, unless it is absent
abbrev pub picture_at : (s : List ℕ) (corner usage parts : ℕ) → Option PictureFields
picture_at s corner usage parts =
    cond (is_present (le32 s parts) (le32 s (parts + 4)) (le32 s (parts + 8)) (le32 s (parts + 12)))
    (Some (picture_fields s corner usage parts)) None

-- a type that has no mask: none
abbrev pub mask_at : (s : List ℕ) (mask : ℕ) → Option PictureFields
mask_at s mask = cond (eqb mask 0) None (picture_at s mask (mask + 8) (mask + 12))

-- a number of the mask, present or not, n bytes from its corner on; of a type that has no mask: 0
abbrev pub mask_number : (s : List ℕ) (mask n : ℕ) → ℕ
mask_number s mask n = cond (eqb mask 0) 0 (le32 s (mask + n))

-- the corners and usages as written, of an absent picture too: "its usage and rectangle fields are then not looked at"
unfoldable pub fields_at : List ℕ → Offsets → Fields
fields_at s f = record {
  bounds = rectangle_at s 8;
  x = le32 s 24;
  y = le32 s 28;
  cx = le32 s f.extent;
  cy = le32 s (f.extent + 4);
  operation = le32 s f.operation;
  source = picture_at s f.corner f.usage f.parts;
  x_src = le32 s f.corner;
  y_src = le32 s (f.corner + 4);
  usage_src = le32 s f.usage;
  cx_src = le32 s f.extent_src;
  cy_src = le32 s (f.extent_src + 4);
  mask = mask_at s f.mask;
  x_mask = mask_number s f.mask 0;
  y_mask = mask_number s f.mask 4;
  usage_mask = mask_number s f.mask 8;
}
