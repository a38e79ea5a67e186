-- Document 01, "Reading a picture": a view that holds the record's own bytes, and a reading as one answer. Definitions only.
use Rattle.std.specs.Prelude.{ℕ, Bool, List, ◌≡◌}
use Rattle.std.specs.Borrow.{Bor}
use Rattle.words.specs.Part.{IsPart}
use Rattle.reading.specs.declared.Reading.{Reading}
use Rattle.reading.specs.Reading.{reading_of, read_palette}
use Rattle.view.specs.declared.View.{View}
use Rattle.view.specs.declared.Whole.{Whole}

-- "with width, rows and layout": a reading's numbers beside the bytes
abbrev pub view_with : Bor (List ℕ) → Reading → View
view_with bytes r = record {
  bytes = bytes;
  width = r.width;
  rows = r.rows;
  layout = r.layout;
}

-- "A picture view carries the record's own bytes, never a copy of them, with width, rows and layout"
pub record IsView (s : Bor (List ℕ)) (mask : Bool) (v : View) : Type 0 where
  pub bytes : IsPart s v.bytes (reading_of s.now mask).view_at (reading_of s.now mask).view_len
  pub numbers : v ≡ view_with v.bytes (reading_of s.now mask)

-- "The header part, too, is handed back, all cbBmi bytes where they stand": a reading as one answer, with its status and its palette
pub record IsWhole (s : Bor (List ℕ)) (mask : Bool) (w : Whole) : Type 0 where
  pub status : w.status ≡ (reading_of s.now mask).status
  pub header : IsPart s w.header (reading_of s.now mask).header_at (reading_of s.now mask).header_len
  pub view : IsView s mask w.view
  pub palette : w.palette ≡ read_palette s.now mask
