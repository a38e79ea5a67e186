-- Script format: what a call's arguments ask for, and the numbers of a reading's line. Definitions only.
use Rattle.std.specs.Prelude.{◌≡◌, List, [], ◌∷◌, Bool, cond, ℕ, length, drop}
use Rattle.meaning.specs.Meaning.{terms_at}
use Rattle.player.specs.Calls.{Play, play_with}
use Rattle.reading.specs.declared.Layout.{Layout}
use Rattle.reading.specs.declared.Reading.{Reading}
use Rattle.reading.specs.Reading.{reading_of, header_bytes, view_bytes, read_palette}
use Rattle.script_format.specs.Sum.{sum_of, bytes_of}

-- what a call is not lent stays as it was
pub record Rest (n : ℕ) (before after : List ℕ) : Type 0 where
  pub long : length after ≡ length before
  pub same : drop n after ≡ drop n before

-- "left, top, right, bottom, brush, tag, data", behind the opcode; "without item 11 it is not looked at" (the tag)
abbrev pub play_asked : (s front : List ℕ) → Play
play_asked s front = play_with s (terms_at front 4)

-- "answer headerlength headersum viewlength viewsum width rows bits compression topdown red green blue alpha palettesum"
unfoldable pub line_with : (status headerlength headersum viewlength viewsum width rows : ℕ) → Layout → (palettesum : ℕ) → List ℕ
line_with status headerlength headersum viewlength viewsum width rows l palettesum =
    status ∷ headerlength ∷ headersum ∷ viewlength ∷ viewsum ∷ width ∷ rows ∷ l.bits ∷ l.compression ∷ cond l.top_down 1 0
    ∷ l.masks.red ∷ l.masks.green ∷ l.masks.blue ∷ l.masks.alpha ∷ palettesum ∷ []

abbrev pub line_of : Reading → (header view palette : ℕ) → List ℕ
line_of r header view palette = line_with r.status r.header_len header r.view_len view r.width r.rows r.layout palette

abbrev pub line_parts : (status : ℕ) (header bytes : List ℕ) (width rows : ℕ) → Layout → (palette : List ℕ) → List ℕ
line_parts status header bytes width rows l palette =
    line_with status (length header) (sum_of header) (length bytes) (sum_of bytes) width rows l (sum_of (bytes_of palette))

abbrev pub line_from : (s : List ℕ) → Reading → (palette : List ℕ) → List ℕ
line_from s r palette = line_of r (sum_of (header_bytes s r)) (sum_of (view_bytes s r)) (sum_of (bytes_of palette))

unfoldable pub read_line : (s : List ℕ) (mask : Bool) → List ℕ
read_line s mask = line_from s (reading_of s mask) (read_palette s mask)
