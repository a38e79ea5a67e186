-- Document 02, item 5, of every record: "Any two parts of the present pictures that have a byte in common are now refused. Refusals: 21;
-- document 01's order becomes 1 to 6, 21, 7 onwards." Definitions only.
use Rattle.std.specs.Prelude.{◌≡◌, ℕ, List, length}
use Rattle.words.specs.Status.{given, or_else}
use Rattle.emr.specs.FrameStatus.{frame_status, any_outside, unreadable}
use Rattle.emr.specs.SharedParts.{Part, Range, parts_of, Common, Apart}
use Rattle.judge.specs.Record.{row_in, fields_in, record_of}
use Rattle.judge.specs.Check.{later_status, status_of}

-- the parts that the record's fixed part names
abbrev pub parts_named : List ℕ → Part → Range
parts_named s = parts_of (fields_in s)

-- "Any two parts of the present pictures that have a byte in common": the record has two such parts
abbrev pub SharesBytes : List ℕ → Type 0
SharesBytes s = Common (parts_named s)

-- 3 to 6
abbrev pub before21 : List ℕ → ℕ
before21 s = or_else (frame_status s (row_in s).at) (given 6 (any_outside (length s) (row_in s).at.fixed (fields_in s)) 0)

-- 7 to 13
abbrev pub after21 : List ℕ → ℕ
after21 s = or_else (given 7 (unreadable s (row_in s).at (fields_in s)) 0) (later_status (row_in s) (fields_in s).operation (record_of s))

pub record SharedBytes (s : List ℕ) : Type 0 where
  -- such a record is refused: with the first of 3 to 6 that applies, else with 21, whatever of 7 onwards does
  pub refused : SharesBytes s → status_of s ≡ or_else (before21 s) 21
  -- where no byte lies in two parts, the order is document 01's
  pub passed : Apart (parts_named s) → status_of s ≡ or_else (before21 s) (after21 s)
  -- 21 is given only there
  pub only : status_of s ≡ 21 → (before21 s ≡ 0) × SharesBytes s
