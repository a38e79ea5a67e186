-- Document 01, "Reading a picture": a DIB's header, from the bytes of its header part. Definitions only.
-- A byte past the part's end reads as 0, so these take every part; whether the part is long enough is judged in HeaderStatus.antt.
use Rattle.std.specs.Prelude.{ℕ, ◌+◌, ◌^◌, Bool, cond, ◌&&◌, List, eqb, leb}
use Rattle.words.specs.Bytes.{le16, le32, negative32, magnitude32}
use Rattle.dib.specs.declared.Masks.{Masks}
use Rattle.dib.specs.declared.Header.{Header}

-- compression 3 is BI_BITFIELDS, 0 BI_RGB
abbrev pub has_masks : ℕ → Bool
has_masks compression = eqb compression 3

-- "V4 masks red, green, blue, alpha at 40, 44, 48, 52"; "With a 40-byte header, and only then, BI_BITFIELDS is followed by three
-- masks": they stand at 40, 44, 48 as well. A mask is 0 where the header has none.
abbrev pub masks_at : List ℕ → (compression size : ℕ) → Masks
masks_at h compression size = record {
  red = cond (has_masks compression) (le32 h 40) 0;
  green = cond (has_masks compression) (le32 h 44) 0;
  blue = cond (has_masks compression) (le32 h 48) 0;
  alpha = cond (has_masks compression && eqb size 108) (le32 h 52) 0;
}

-- "size 0, width 4, height 8, planes 12, bits 14, compression 16, colours used 32"; width and height are as written
abbrev pub header_of : List ℕ → Header
header_of h = record {
  size = le32 h 0;
  width = le32 h 4;
  height = le32 h 8;
  planes = le16 h 12;
  bits = le16 h 14;
  compression = le32 h 16;
  colours = le32 h 32;
  masks = masks_at h (le32 h 16) (le32 h 0);
}

-- "Positive height: the last stored row is the top one."
abbrev pub top_down : Header → Bool
top_down h = negative32 h.height

abbrev pub rows : Header → ℕ
rows h = magnitude32 h.height

-- "The colour table follows": behind the header, and behind the three masks of a 40-byte header
unfoldable pub table_start : Header → ℕ
table_start h = h.size + cond (has_masks h.compression && eqb h.size 40) 12 0

-- "At 1, 4, 8 bits it has the colours used, or 2^bits where that is 0. At 16, 24, 32 it has the colours used .."
unfoldable pub entries : Header → ℕ
entries h = cond (eqb h.colours 0) (cond (leb h.bits 8) (2 ^ h.bits) 0) h.colours
