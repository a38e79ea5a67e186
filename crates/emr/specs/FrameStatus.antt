-- Document 01, refusals 3 to 7: a record's length, type, Size, parts, transform and usages; with document 02, item 5, "1 to 6, 21, 7
-- onwards". Definitions only.
use Rattle.std.specs.Prelude.{ℕ, ◌+◌, ◌%◌, Bool, false, not, ◌&&◌, ◌||◌, List, length, eqb, ltb, Option, Some, None}
use Rattle.words.specs.Bytes.{le32}
use Rattle.words.specs.Status.{given}
use Rattle.emr.specs.declared.Offsets.{Offsets}
use Rattle.emr.specs.declared.PictureFields.{PictureFields}
use Rattle.emr.specs.declared.Fields.{Fields}
use Rattle.emr.specs.Transform.{transform_of, is_identity}
use Rattle.emr.specs.SharedParts.{shared_parts}

-- 3: "record under 8 bytes or over 16,777,216"
abbrev pub bad_length : (len : ℕ) → Bool
bad_length len = ltb len 8 || ltb 16777216 len

-- 4: "type not listed"
abbrev pub bad_type : (fixed : ℕ) → Bool
bad_type fixed = eqb fixed 0

-- 5: "Size not the lent length, not a multiple of 4, or below the fixed part"
abbrev pub bad_size : (size len fixed : ℕ) → Bool
bad_size size len fixed = not (eqb size len) || not (eqb (size % 4) 0) || ltb size fixed

-- 3 to 5
unfoldable pub frame_status : List ℕ → Offsets → ℕ
frame_status s at =
    given 3 (bad_length (length s)) (given 4 (bad_type at.fixed) (given 5 (bad_size (le32 s 4) (length s) at.fixed) 0))

-- 6: "a present picture's part begins before the fixed part's end or ends past Size"
abbrev pub outside : (len fixed at size : ℕ) → Bool
outside len fixed at size = ltb at fixed || ltb len (at + size)

abbrev pub bad_parts : (len fixed : ℕ) → Option PictureFields → Bool
bad_parts len fixed None = false
bad_parts len fixed (Some p) = outside len fixed p.bmi p.bmi_len || outside len fixed p.bits p.bits_len

-- 6, over both pictures
abbrev pub any_outside : (len fixed : ℕ) → Fields → Bool
any_outside len fixed f = bad_parts len fixed f.source || bad_parts len fixed f.mask

-- 7: "XformSrc not the identity, or a present picture's usage not 0"
abbrev pub bad_transform : List ℕ → (at : ℕ) → Bool
bad_transform s at = not (eqb at 0) && not (is_identity (transform_of s at))

abbrev pub bad_usage : Option PictureFields → Bool
bad_usage None = false
bad_usage (Some p) = not (eqb p.usage 0)

-- 7, over both pictures
abbrev pub unreadable : List ℕ → Offsets → Fields → Bool
unreadable s at f = bad_transform s at.transform || bad_usage f.source || bad_usage f.mask

-- 6, 21 and 7, in this order
unfoldable pub parts_status : List ℕ → Offsets → Fields → ℕ
parts_status s at f = given 6 (any_outside (length s) at.fixed f) (given 21 (shared_parts f) (given 7 (unreadable s at f) 0))
