-- Document 01, "Reading a picture": what a reading for the source or the mask answers. Definitions only.
use Rattle.std.specs.Prelude.{ℕ, ◌+◌, ◌*◌, ◌≤◌, Bool, false, cond, List, ◌≡◌, length, drop, Option, Result, Ok, Err}
use Rattle.std.specs.Option.{ok_or}
use Rattle.words.specs.Bytes.{part_of}
use Rattle.dib.specs.Header.{top_down, rows, table_start}
use Rattle.dib.specs.HeaderStatus.{bits_needed}
use Rattle.sample.specs.Palette.{palette_of}
use Rattle.judge.specs.declared.Picture.{Picture}
use Rattle.judge.specs.declared.Record.{Record}
use Rattle.judge.specs.Record.{header_part}
use Rattle.judge.specs.Check.{check_of}
use Rattle.picture.specs.Shown.{black, shown_entries, header_palette}
use Rattle.reading.specs.declared.Reading.{Reading}

-- ---- the picture that is asked for

-- "A reading is asked for source or mask"
abbrev pub wanted : (mask : Bool) → Record → Option Picture
wanted mask r = cond mask r.mask r.source

-- it is there, or there is none, with a refused record's number: "if that one is absent, or the type has no mask, it answers 0 with the
-- rest as in a refused reading"
abbrev pub found_in : (mask : Bool) → Result Record ℕ → Result Picture ℕ
found_in mask (Ok r) = ok_or (wanted mask r) 0
found_in mask (Err k) = Err k

unfoldable pub found_of : List ℕ → (mask : Bool) → Result Picture ℕ
found_of s mask = found_in mask (check_of s)

-- ---- what is read of it

-- "A refused reading gives its number, an empty header part, an empty view with width and rows 0 in the 1-bit bottom-up layout, and
-- a black palette."
abbrev pub empty_reading : (status : ℕ) → Reading
empty_reading status = record {
  status = status;
  header_at = 0;
  header_len = 0;
  view_at = 0;
  view_len = 0;
  table_at = 0;
  colours = 0;
  width = 0;
  rows = 0;
  layout = record {
    bits = 1;
    compression = 0;
    top_down = false;
    masks = record { red = 0; green = 0; blue = 0; alpha = 0 };
  };
}

-- "The header part, too, is handed back, all cbBmi bytes where they stand"; the view's bytes "are the first row length · rows bytes of
-- the bits part", "with width, rows and layout"
abbrev pub full_reading : Picture → Reading
full_reading p = record {
  status = 0;
  header_at = p.bmi;
  header_len = p.bmi_len;
  view_at = p.bits;
  view_len = bits_needed p.header;
  table_at = table_start p.header;
  colours = shown_entries p.header;
  width = p.header.width;
  rows = rows p.header;
  layout = record {
    bits = p.header.bits;
    compression = p.header.compression;
    top_down = top_down p.header;
    masks = p.header.masks;
  };
}

abbrev pub reading_from : Result Picture ℕ → Reading
reading_from (Ok p) = full_reading p
reading_from (Err k) = empty_reading k

unfoldable pub reading_of : List ℕ → (mask : Bool) → Reading
reading_of s mask = reading_from (found_of s mask)

-- the two parts, of the record's own bytes
unfoldable pub header_bytes : List ℕ → Reading → List ℕ
header_bytes s r = part_of s r.header_at r.header_len

unfoldable pub view_bytes : List ℕ → Reading → List ℕ
view_bytes s r = part_of s r.view_at r.view_len

-- the palette of the picture that is asked for; black where there is none
abbrev pub palette_from : List ℕ → Result Picture ℕ → List ℕ
palette_from s (Ok p) = header_palette (header_part s p) p.header
palette_from s (Err k) = black

unfoldable pub read_palette : List ℕ → (mask : Bool) → List ℕ
read_palette s mask = palette_from s (found_of s mask)

-- the palette by a reading's own numbers: so many entries, from a place of the header part on
unfoldable pub shown_palette : List ℕ → Reading → List ℕ
shown_palette s r = palette_of (drop r.table_at (header_bytes s r)) r.colours

-- ---- what is known of every reading

-- its parts lie in a record of len bytes, and the entries that it shows in its header part
pub record Within (len : ℕ) (r : Reading) : Type 0 where
  pub header : r.header_at + r.header_len ≤ len
  pub view : r.view_at + r.view_len ≤ len
  pub table : r.table_at + 4 * r.colours ≤ r.header_len
  pub few : r.colours ≤ 256

pub record IsReading (s : List ℕ) (mask : Bool) (r : Reading) : Type 0 where
  pub answer : r ≡ reading_of s mask
  pub within : Within (length s) r
  pub palette : shown_palette s r ≡ read_palette s mask
