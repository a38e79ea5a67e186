-- Document 01, "Reading a picture": the pixel that a DIB shows at a column and a row, counted from its top. Definitions only.
use Rattle.std.specs.Prelude.{ℕ, ◌^◌, ◌<◌, Bool, List, get_or}
use Rattle.pixel.specs.Position.{row_length}
use Rattle.dib.specs.declared.Header.{Header}
use Rattle.dib.specs.Header.{top_down, rows}
use Rattle.sample.specs.Stored.{stored, stored_row, row_bytes}
use Rattle.sample.specs.Colour.{masks_in, shown}

-- the bits part's bytes, the header and the palette give the pixel; alpha format 1 makes the high byte of BI_RGB 32 an alpha
unfoldable pub pixel_at : (bytes : List ℕ) → Header → (palette : List ℕ) (format1 : Bool) (column row : ℕ) → ℕ
pixel_at bytes h palette format1 column row =
    shown h.bits palette (masks_in h format1)
    (stored h.bits (row_bytes bytes (row_length h.width h.bits) (stored_row (top_down h) (rows h) row)) column)

-- a palette's entries are colours
abbrev pub Colours : List ℕ → Type 0
Colours palette = (k : ℕ) → get_or palette k 0 < 2 ^ 24
