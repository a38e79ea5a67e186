-- Document 01, "Reading a picture": the palette and the rows of a record's source or mask. Definitions only.
use Rattle.std.specs.Prelude.{cond, ℕ, List, drop, replicate, leb, Option, Some, None}
use Rattle.pixel.specs.Position.{row_length}
use Rattle.dib.specs.declared.Header.{Header}
use Rattle.dib.specs.Header.{table_start, entries, top_down, rows}
use Rattle.sample.specs.Palette.{palette_of}
use Rattle.sample.specs.Stored.{stored_row, row_bytes}
use Rattle.judge.specs.declared.Picture.{Picture}
use Rattle.judge.specs.Record.{header_part, bits_part}

abbrev pub black : List ℕ
black = replicate 256 0

-- "at 1, 4, 8 bits"; at 16, 24, 32 the table "is skipped"
abbrev pub shown_entries : Header → ℕ
shown_entries h = cond (leb h.bits 8) (entries h) 0

unfoldable pub header_palette : (header : List ℕ) → Header → List ℕ
header_palette header h = palette_of (drop (table_start h) header) (shown_entries h)

-- where there is no picture, all is black
unfoldable pub picture_palette : List ℕ → Option Picture → List ℕ
picture_palette s None = black
picture_palette s (Some p) = header_palette (header_part s p) p.header

-- the bytes of a row, counted from the top
abbrev pub picture_row : List ℕ → Picture → (row : ℕ) → List ℕ
picture_row s p row =
    row_bytes (bits_part s p) (row_length p.header.width p.header.bits) (stored_row (top_down p.header) (rows p.header) row)
