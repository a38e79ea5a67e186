-- Document 01, "Refusals and their order": statuses 8 to 13, and the whole order of 3 to 13; with document 02, item 5,
-- "1 to 6, 21, 7 onwards". Definitions only.
use Rattle.std.specs.Prelude.{ℕ, zero, suc, Bool, false, not, ◌||◌, List, eqb, Option, Some, None, is_some, Result, Ok, Err}
use Rattle.words.specs.Status.{given, or_else, lowest}
use Rattle.dib.specs.Header.{rows}
use Rattle.dib.specs.HeaderStatus.{dib_status}
use Rattle.emr.specs.declared.Row.{Row}
use Rattle.emr.specs.FrameStatus.{frame_status, parts_status}
use Rattle.judge.specs.declared.Picture.{Picture}
use Rattle.judge.specs.declared.Record.{Record}
use Rattle.judge.specs.Record.{row_in, fields_in, record_of}
use Rattle.judge.specs.Operation.{bad_operation, bad_mask}
use Rattle.judge.specs.Geometry.{bad_target, bad_signs, bad_source, bad_corner}

-- 8, 9, 10 of a picture, if it is present
unfoldable pub picture_status : Option Picture → ℕ
picture_status None = 0
picture_status (Some p) = dib_status p.bmi_len p.header p.bits_len

-- 8, 9, 10 of both: the lowest number that applies to either
unfoldable pub dibs_status : Record → ℕ
dibs_status r = lowest (picture_status r.source) (picture_status r.mask)

-- "present source extent .., corner .., rectangle not inside its picture"
abbrev pub outside_picture : (source : Option Picture) (cx cy : ℕ) → Bool
outside_picture None cx cy = false
outside_picture (Some p) cx cy = bad_source p.x p.y cx cy p.header.width (rows p.header)

-- the corner of a present mask
abbrev pub far_mask : (mask : Option Picture) → Bool
far_mask None = false
far_mask (Some p) = bad_corner p.x p.y

-- 12
unfoldable pub bad_geometry : (signed : Bool) → Record → Bool
bad_geometry signed r =
    bad_target r.x r.y r.cx r.cy || bad_signs signed (is_some r.source) r.cx r.cy r.cx_src r.cy_src
    || outside_picture r.source r.cx_src r.cy_src || far_mask r.mask

-- 11, 12, 13, of a record whose pictures pass the rest
unfoldable pub call_status : Row → (operation : ℕ) → Record → ℕ
call_status row operation r =
    given 11 (bad_operation row.form operation r.action r.source)
    (given 12 (bad_geometry row.signed r)
    (given 13 (bad_mask (not (eqb row.at.mask 0)) r.mask) 0))

-- 8 to 13
unfoldable pub later_status : Row → (operation : ℕ) → Record → ℕ
later_status row operation r = or_else (dibs_status r) (call_status row operation r)

-- 3 to 6, 21, 7 to 13
unfoldable pub status_of : List ℕ → ℕ
status_of s =
    or_else (or_else (frame_status s (row_in s).at) (parts_status s (row_in s).at (fields_in s)))
    (later_status (row_in s) (fields_in s).operation (record_of s))

-- a record is accepted as one value, or refused with its status
abbrev pub settled : ℕ → Record → Result Record ℕ
settled zero r = Ok r
settled (suc k) r = Err (suc k)

unfoldable pub check_of : List ℕ → Result Record ℕ
check_of s = settled (status_of s) (record_of s)

-- document 01's number for each case of the answer
abbrev pub status_in : Result Record ℕ → ℕ
status_in (Ok r) = 0
status_in (Err k) = k
