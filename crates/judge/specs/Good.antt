-- What acceptance says of a record, as far as drawing and reading rest on it. Definitions only.
use Rattle.std.specs.Prelude.{◌≡◌, true, false, ℕ, ◌+◌, ◌≤◌, Option, Some, None}
use Rattle.std.specs.Option.{ForSome}
use Rattle.dib.specs.Header.{rows}
use Rattle.dib.specs.HeaderStatus.{bad_header, bad_masks, bits_needed}
use Rattle.emr.specs.SharedParts.{Part, Range, range, parts, Apart}
use Rattle.judge.specs.declared.Picture.{Picture}
use Rattle.judge.specs.declared.Record.{Record}
use Rattle.judge.specs.Geometry.{bad_target, bad_source}

-- a picture that 8, 9 and 10 let pass
pub record Dib (p : Picture) : Type 0 where
  pub header_ok : bad_header p.bmi_len p.header ≡ false
  pub masks_ok : bad_masks p.header ≡ false
  pub rows_ok : bits_needed p.header ≤ p.bits_len

-- and whose parts lie in a record of len bytes
pub record Fit (len : ℕ) (p : Picture) : Type 0 where
  pub header_read : p.bmi + p.bmi_len ≤ len
  pub bits_in : p.bits + p.bits_len ≤ len
  pub sound : Dib p

-- the parts of a record's pictures, as written
abbrev pub header_range : Option Picture → Range
header_range None = range false 0 0
header_range (Some p) = range true p.bmi p.bmi_len

abbrev pub bits_range : Option Picture → Range
bits_range None = range false 0 0
bits_range (Some p) = range true p.bits p.bits_len

abbrev pub parts_in : Record → Part → Range
parts_in r = parts (header_range r.source) (bits_range r.source) (header_range r.mask) (bits_range r.mask)

-- an accepted record of len bytes: of its pictures, what is known where they are present
pub record Good (len : ℕ) (r : Record) : Type 0 where
  pub source : ForSome r.source (Fit len)
  pub mask : ForSome r.mask (Fit len)
  pub apart : Apart (parts_in r)
  pub target : bad_target r.x r.y r.cx r.cy ≡ false
  pub inside : ForSome r.source (λ p. bad_source p.x p.y r.cx_src r.cy_src p.header.width (rows p.header) ≡ false)
