-- Document 01, "Which pixels, from where": the source pixel and the mask's bit that column i and row j of the target read, both counted
-- from the whole target's left and top. Definitions only.
use Rattle.std.specs.Prelude.{ℕ, ◌+◌, ◌-◌, Bool, true, false, cond, not, List, Option, Some, None}
use Rattle.words.specs.Bytes.{negative32, magnitude32, signed32}
use Rattle.pixel.specs.Position.{source_position, mask_pixel}
use Rattle.dib.specs.Header.{rows}
use Rattle.sample.specs.Stored.{stored1}
use Rattle.sample.specs.At.{pixel_at}
use Rattle.judge.specs.declared.Action.{Action}
use Rattle.judge.specs.declared.Action.TheVariants.{Blend0, Blend1, Masked, Raster}
use Rattle.judge.specs.declared.Picture.{Picture}
use Rattle.judge.specs.declared.Record.{Record}
use Rattle.judge.specs.Record.{bits_part}
use Rattle.picture.specs.Shown.{picture_palette, picture_row}

-- "A negative extent covers the pixels before its corner": the first column of a source's rectangle, which lies in its picture
unfoldable pub source_start : (x cx : ℕ) → ℕ
source_start x cx = cond (negative32 cx) (x - magnitude32 cx) x

-- "or n − 1 − j if the signs differ"
unfoldable pub mirrored : (cx cx_src : ℕ) → Bool
mirrored cx cx_src = cond (negative32 cx) (not (negative32 cx_src)) (negative32 cx_src)

-- the source's column (or row) that column (or row) i of the target reads, counted from the picture's left (or top)
unfoldable pub source_column : (x cx_src cx i : ℕ) → ℕ
source_column x cx_src cx i = source_start x cx_src + source_position (mirrored cx cx_src) i (magnitude32 cx_src) (magnitude32 cx)

-- "alpha only under alpha format 1"
abbrev pub is_format1 : Action → Bool
is_format1 (Blend0 a) = false
is_format1 (Blend1 a) = true
is_format1 (Masked f b) = false
is_format1 (Raster o) = false

-- the pixel at a column and a row of a record's source
unfoldable pub source_shown : List ℕ → Action → (source : Picture) → (column row : ℕ) → ℕ
source_shown s a p column row = pixel_at (bits_part s p) p.header (picture_palette s (Some p)) (is_format1 a) column row

-- 0 where the source is absent
abbrev pub source_read : List ℕ → Record → (source : Option Picture) → (i j : ℕ) → ℕ
source_read s r None i j = 0
source_read s r (Some p) i j =
    source_shown s r.action p (source_column p.x r.cx_src r.cx i) (source_column p.y r.cy_src r.cy j)

unfoldable pub source_pixel : List ℕ → Record → (i j : ℕ) → ℕ
source_pixel s r i j = source_read s r r.source i j

-- the bit at a column and a row of a record's mask; "its bit is used, not its colour"
unfoldable pub mask_shown : List ℕ → (mask : Picture) → (column row : ℕ) → ℕ
mask_shown s p column row = stored1 (picture_row s p row) column

-- 0 where the mask is absent
abbrev pub mask_read : List ℕ → (mask : Option Picture) → (i j : ℕ) → ℕ
mask_read s None i j = 0
mask_read s (Some p) i j = mask_shown s p (mask_pixel (signed32 p.x) i p.header.width) (mask_pixel (signed32 p.y) j (rows p.header))

unfoldable pub mask_bit : List ℕ → Record → (i j : ℕ) → ℕ
mask_bit s r i j = mask_read s r.mask i j
