-- Document 01, refusals 8, 9 and 10: what a DIB's header part and the length of its bits part are judged by. Definitions only.
use Rattle.std.specs.Prelude.{ℕ, ◌+◌, ◌*◌, ◌^◌, Bool, not, ◌&&◌, ◌||◌, eqb, ltb}
use Rattle.std.specs.Int.Bits.{bit_and}
use Rattle.words.specs.Status.{given}
use Rattle.pixel.specs.Masks.{is_channel}
use Rattle.pixel.specs.Position.{is_depth, row_length}
use Rattle.dib.specs.declared.Masks.{Masks}
use Rattle.dib.specs.declared.Header.{Header}
use Rattle.dib.specs.Header.{has_masks, rows, table_start, entries}

-- ---- 8: "header part too short for header, masks and table; size, planes (1), bits or compression not listed; width, or height
-- without sign, not 1..16,384; colours used over 2^bits or over 256"

abbrev pub bad_size : (size : ℕ) → Bool
bad_size size = not (eqb size 40 || eqb size 108)

-- "Compression 0 (BI_RGB) or 3 (BI_BITFIELDS, 16 and 32 bits only)."
abbrev pub bad_compression : (compression bits : ℕ) → Bool
bad_compression compression bits = not (eqb compression 0 || has_masks compression && (eqb bits 16 || eqb bits 32))

-- not 1..16,384
abbrev pub bad_extent : ℕ → Bool
bad_extent n = ltb n 1 || ltb 16384 n

unfoldable pub bad_colours : (colours bits : ℕ) → Bool
bad_colours colours bits = ltb (2 ^ bits) colours || ltb 256 colours

-- all but the part's length
unfoldable pub bad_fields : Header → Bool
bad_fields h =
    bad_size h.size || not (eqb h.planes 1) || not (is_depth h.bits) || bad_compression h.compression h.bits
    || bad_extent h.width || bad_extent (rows h) || bad_colours h.colours h.bits

unfoldable pub bad_header : (len : ℕ) → Header → Bool
bad_header len h = bad_fields h || ltb len (table_start h + 4 * entries h)

-- ---- 9: "under BI_BITFIELDS, a mask breaks its rules (BI_RGB ignores masks)"
-- "Red, green and blue are each non-zero, no two masks overlap, all lie in the pixel's bits. The alpha mask .. may be zero."

abbrev pub overlap : (a b : ℕ) → Bool
overlap a b = not (eqb (bit_and a b) 0)

abbrev pub bad_channels : (bits : ℕ) → Masks → Bool
bad_channels bits m =
    not (is_channel bits m.red) || not (is_channel bits m.green) || not (is_channel bits m.blue)
    || not (eqb m.alpha 0 || is_channel bits m.alpha)

abbrev pub bad_overlaps : Masks → Bool
bad_overlaps m =
    overlap m.red m.green || overlap m.red m.blue || overlap m.green m.blue
    || overlap m.alpha m.red || overlap m.alpha m.green || overlap m.alpha m.blue

unfoldable pub bad_masks : Header → Bool
bad_masks h = has_masks h.compression && (bad_channels h.bits h.masks || bad_overlaps h.masks)

-- ---- 10: "bits part under row length · rows"

unfoldable pub bits_needed : Header → ℕ
bits_needed h = row_length h.width h.bits * rows h

-- the first of 8, 9 and 10 that applies to a header whose part has `len` bytes and to a bits part of `bits` bytes, or 0
unfoldable pub dib_status : (len : ℕ) → Header → (bits : ℕ) → ℕ
dib_status len h bits = given 8 (bad_header len h) (given 9 (bad_masks h) (given 10 (ltb bits (bits_needed h)) 0))
