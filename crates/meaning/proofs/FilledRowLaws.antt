-- A row of source pixels and a row of mask bits, as they are fetched. Assumes nothing.
use mathlib.Core.Path.{◌≡◌, refl, sym, ap, ◌∙◌, subst}
use mathlib.Core.Bool.{Bool, true, false}
use mathlib.Core.List.{List}
use Prim.Native.Nat.{ℕ, ◌+◌, ◌*◌, ◌<◌}
use native.Mathlib.Omega.{arith}
use native.Mathlib.Nat.{mul-le-mul_left}
use lib.IntN.{pos, ◌+ℤ◌}
use lib.ListN.{length, get_or}
use Rattle.words.specs.Bytes.{signed32}
use Rattle.words.specs.Filled.{Filled}
use Rattle.words.proofs.FillLaws.{filled_by}
use Rattle.std.specs.Prelude.{Some}
use Rattle.pixel.specs.Position.{row_length, remainder, mask_pixel}
use Rattle.pixel.proofs.PositionLaws.{remainder_lt}
use Rattle.dib.specs.declared.Header.{Header}
use Rattle.dib.specs.Header.{top_down, rows}
use Rattle.dib.specs.HeaderStatus.{bad_fields}
use Rattle.dib.proofs.HeaderLaws.{sound, passed_fields, depth_bounds}
use Rattle.dib.specs.declared.Masks.{Masks}
use Rattle.sample.specs.Stored.{stored1, stored, stored_row}
use Rattle.sample.specs.Colour.{masks_in, shown}
use Rattle.sample.specs.At.{pixel_at}
use Rattle.sample.proofs.AtLaws.{column_in}
use Rattle.judge.specs.declared.Picture.{Picture}
use Rattle.judge.specs.declared.Record.{Record}
use Rattle.judge.specs.Record.{bits_part}
use Rattle.judge.specs.Good.{Fit}
use Rattle.picture.specs.Shown.{picture_palette, picture_row}
use Rattle.picture.proofs.PictureRowLaws.{length_bits}
use Rattle.fetch.specs.Fetched.{fetched, InLine, Readable}
use Rattle.fetch.proofs.ReadableLaws.{readable}
use Rattle.meaning.specs.Sampling.{is_format1, source_column, source_shown, mask_shown}
use Rattle.meaning.specs.Rows.{InPicture, SourceFilled, MaskFilled}

-- ---- what a picture that fits its record is known for

pub fields_ok : {len : ℕ} (p : Picture) → Fit len p → bad_fields p.header ≡ false
fields_ok p f = passed_fields _ p.header f.sound.header_ok

-- its pixels can be read with the masks in force
pub as_readable : {len : ℕ} (p : Picture) (m : Masks) (format1 : Bool) → Fit len p → m ≡ masks_in p.header format1 → Readable p.header.bits m
as_readable p m format1 f e = rw e (readable p.header format1 (fields_ok p f) f.sound.masks_ok)

stored_lt : (t : Bool) (n row : ℕ) → row < n → stored_row t n row < n
unfolding stored_row
stored_lt true n row h = h
stored_lt false n row h = omega arith

-- a row's bytes reach to the end of each column's pixel
pub line_reaches : (s : List ℕ) (p : Picture) (row : ℕ) (line columns : List ℕ) → Fit (length s) p → row < rows p.header
    → line ≡ picture_row s p row → InPicture p.header.width columns → InLine p.header.bits line columns
line_reaches s p row line columns f r e i k l =
    let h : Header = p.header in
    column_in h (bits_part s p) (row_length h.width h.bits) (rows h) (stored_row (top_down h) (rows h) row) refl refl
    (stored_lt (top_down p.header) (rows p.header) row r) (omega (arith, f.sound.rows_ok, length_bits s p f)) line (get_or columns k 0) e (i k l)

module _ (s : List ℕ) (r : Record) (p : Picture) (line columns : List ℕ) (j row : ℕ) (el : line ≡ picture_row s p row) where
  module _ (m : Masks) (palette : List ℕ) (there : r.source ≡ Some p) (em : m ≡ masks_in p.header (is_format1 r.action))
      (ep : palette ≡ picture_palette s r.source) (er : row ≡ source_column p.y r.cy_src r.cy j) where
    shown_is : (k : ℕ) → fetched p.header.bits palette m line columns k
        ≡ source_shown s r.action p (get_or columns k 0) (source_column p.y r.cy_src r.cy j)
    unfolding fetched source_shown pixel_at
    shown_is k =
        let c : ℕ = get_or columns k 0 in
        let shows : palette ≡ picture_palette s (Some p) = ep ∙ ap (picture_palette s) there in
        (λ t. shown p.header.bits (shows t) (em t) (stored p.header.bits (el t) c))
        ∙ ap (pixel_at (bits_part s p) p.header (picture_palette s (Some p)) (is_format1 r.action) c) er

    pub source_filled : (before after : List ℕ) → Filled (fetched p.header.bits palette m line columns) before (length columns) after
        → SourceFilled s r j columns before after
    source_filled before after f = rw there (filled_by _ _ (length columns) before after (λ k l. shown_is k) f)

  module _ (n : ℕ) (there : r.mask ≡ Some p) (en : n ≡ rows p.header) (er : row ≡ mask_pixel (signed32 p.y) j n) where
    bit_is : (k : ℕ) → stored1 line (get_or columns k 0) ≡ mask_shown s p (get_or columns k 0) (mask_pixel (signed32 p.y) j (rows p.header))
    unfolding mask_shown
    bit_is k =
        let c : ℕ = get_or columns k 0 in
        ap (λ (l : List ℕ). stored1 l c) (el ∙ ap (picture_row s p) (er ∙ ap (mask_pixel (signed32 p.y) j) en))

    pub mask_filled : (before after : List ℕ) → Filled (λ k. stored1 line (get_or columns k 0)) before (length columns) after
        → MaskFilled s r j columns before after
    mask_filled before after f = rw there (filled_by _ _ (length columns) before after (λ k l. bit_is k) f)

-- each column's bit lies in the row's bytes
pub bits_reach : (h : Header) (line columns : List ℕ) → bad_fields h ≡ false → InLine h.bits line columns → (k : ℕ) → k < length columns
    → get_or columns k 0 < length line * 8
bits_reach h line columns f i k l =
    let d = (depth_bounds h.bits (sound h f).depth).0 in
    omega (arith, i k l, mul-le-mul_left (get_or columns k 0 + 1) d)

-- the mask's row lies in its rows
pub mask_row_in : (y j : ℕ) (h : Header) (m row : ℕ) → bad_fields h ≡ false → m ≡ rows h → row ≡ mask_pixel (signed32 y) j m → row < rows h
unfolding mask_pixel
mask_row_in y j h m row f e q =
    let l = remainder_lt (signed32 y +ℤ pos j) (rows h) (sound h f).rows.0 in
    subst (λ (k : ℕ). k < rows h) (sym (q ∙ ap (remainder (signed32 y +ℤ pos j)) e)) l
