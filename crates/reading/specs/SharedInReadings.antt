-- Document 02, item 5, of every reading: "Any two parts of the present pictures that have a byte in common are now refused. Refusals: 21".
use Rattle.std.specs.Prelude.{◌≡◌, ℕ, Bool, List}
use Rattle.words.specs.Status.{or_else}
use Rattle.judge.specs.SharedBytes.{SharesBytes, before21}
use Rattle.picture.specs.Shown.{black}
use Rattle.reading.specs.Reading.{empty_reading, reading_of, read_palette}

-- whichever picture is asked for
pub record SharedInReadings : Type 0 where
  -- such a reading is refused, with the first of 3 to 6 that applies, else with 21; its palette is black
  pub refused : (s : List ℕ) (mask : Bool) → SharesBytes s → reading_of s mask ≡ empty_reading (or_else (before21 s) 21)
  pub no_colours : (s : List ℕ) (mask : Bool) → SharesBytes s → read_palette s mask ≡ black
  -- no other reading is answered 21
  pub only : (s : List ℕ) (mask : Bool) → (reading_of s mask).status ≡ 21 → SharesBytes s
