-- A row that is fetched and painted is drawn as the record's meaning says, because its pixels and bits are the meaning's. Assumes nothing.
use mathlib.Core.Path.{◌≡◌, refl, ap, ◌∙◌, subst}
use mathlib.Core.List.{List}
use Prim.Native.Nat.{ℕ, ◌+◌, ◌-◌, ◌*◌, ◌≤◌, ◌<◌}
use native.Mathlib.Nat.{mul-le-mul_left, mul-suc, mul-add, mul_comm}
use native.Mathlib.Omega.{arith}
use lib.ListN.{length, get_or}
use lib.Seq.{sets}
use lib.IntN.{pos, ◌+ℤ◌}
use Rattle.words.specs.Bytes.{magnitude32, signed32}
use Rattle.std.specs.Prelude.{Option, Some, None}
use Rattle.std.specs.Option.{ForSome}
use Rattle.pixel.specs.Position.{mask_pixel}
use Rattle.pixel.proofs.PositionLaws.{remainder_lt}
use Rattle.dib.specs.Header.{rows}
use Rattle.dib.proofs.HeaderLaws.{sound}
use Rattle.judge.specs.declared.Picture.{Picture}
use Rattle.judge.specs.declared.Record.{Record}
use Rattle.judge.specs.Good.{Good}
use Rattle.region.specs.declared.Target.{Target}
use Rattle.region.specs.Target.{row}
use Rattle.journal.specs.Drawing.{Paint, drawn}
use Rattle.journal.specs.Points.{AgreeOn}
use Rattle.journal.specs.Records.{stride, Entry, bytes_of, saved}
use Rattle.journal.proofs.RowLaws.{Rows, rows_turn}
use Rattle.journal.proofs.AlikeLaws.{drawn_alike, saved_alike, agree_row}
use Rattle.composite.specs.declared.Rule.{Rule}
use Rattle.composite.specs.Paints.{painted_by, row_paint, Painted}
use Rattle.meaning.specs.Sampling.{source_column, source_shown, source_read, source_pixel, mask_shown, mask_read, mask_bit}
use Rattle.meaning.specs.Meaning.{rule_of, meaning_in, paint_on}
use Rattle.meaning.specs.Rows.{InPicture, FilledFrom, SourceFilled, MaskFilled}
use Rattle.meaning.proofs.FitLaws.{source_fits, column_inside}
use Rattle.meaning.proofs.FilledRowLaws.{fields_ok}
use Rattle.draw.specs.declared.Plan.{Plan}
use Rattle.draw.specs.Ready.{Mapped, Blank}

-- ---- a buffer that a row was fetched to, as far as there is a picture

module _ (picture : Option Picture) (rule : Picture → ℕ → ℕ) (n : ℕ) (before after : List ℕ) where
  pub filled_length : FilledFrom picture rule n before after → length after ≡ length before
  filled_length f = go picture f
    where
      go : (o : Option Picture) → FilledFrom o rule n before after → length after ≡ length before
      go None e = ap (λ (l : List ℕ). length l) e
      go (Some p) e = e.long

  pub still_blank : (count : ℕ) → FilledFrom picture rule n before after → Blank picture count before → Blank picture count after
  still_blank count f blank absent k q = let same = rw absent at f in ap (λ (l : List ℕ). get_or l k 0) same ∙ blank absent k q

-- ---- a row's source pixels and mask bits are those of the record's meaning

module _ (s : List ℕ) (p : Plan) (columns mask_columns : List ℕ) (m : Mapped p columns mask_columns) (j : ℕ) (before after : List ℕ) where
  abbrev rec : Record
  rec = p.record

  abbrev t : Target
  t = p.target

  -- the rules of a row of source pixels and of a row of mask bits
  abbrev pixels : Picture → ℕ → ℕ
  pixels a k = source_shown s rec.action a (get_or columns k 0) (source_column a.y rec.cy_src rec.cy j)

  abbrev bits : Picture → ℕ → ℕ
  bits a k = mask_shown s a (get_or mask_columns k 0) (mask_pixel (signed32 a.y) j (rows a.header))

  source_by : (o : Option Picture) → rec.source ≡ o → Blank o t.columns.count before → FilledFrom o pixels (length columns) before after
      → (q : ℕ) → q < t.columns.count → get_or after q 0 ≡ source_read s rec o (t.columns.index + q) j
  source_by None e blank f q l = ap (λ (x : List ℕ). get_or x q 0) f ∙ blank refl q l
  source_by (Some a) e blank f q l =
      let line : ℕ = source_column a.y rec.cy_src rec.cy j in
      f.front q (omega (arith, m.as_many)) ∙ ap (λ (k : ℕ). source_shown s rec.action a k line) (m.source a e q l)

  mask_by : (o : Option Picture) → rec.mask ≡ o → Blank o t.columns.count before → FilledFrom o bits (length mask_columns) before after
      → (q : ℕ) → q < t.columns.count → get_or after q 0 ≡ mask_read s o (t.columns.index + q) j
  mask_by None e blank f q l = ap (λ (x : List ℕ). get_or x q 0) f ∙ blank refl q l
  mask_by (Some a) e blank f q l =
      let line : ℕ = mask_pixel (signed32 a.y) j (rows a.header) in
      f.front q (omega (arith, m.as_many_masks)) ∙ ap (λ (k : ℕ). mask_shown s a k line) (m.mask a e q l)

  -- the buffers that a row is fetched to
  pub colours_are : Blank rec.source t.columns.count before → SourceFilled s rec j columns before after
      → (q : ℕ) → q < t.columns.count → get_or after q 0 ≡ source_pixel s rec (t.columns.index + q) j
  unfolding source_pixel
  colours_are blank f q l = source_by rec.source refl blank f q l

  pub bits_are : Blank rec.mask t.columns.count before → MaskFilled s rec j mask_columns before after
      → (q : ℕ) → q < t.columns.count → get_or after q 0 ≡ mask_bit s rec (t.columns.index + q) j
  unfolding mask_bit
  bits_are blank f q l = mask_by rec.mask refl blank f q l

pub mask_wide : {len : ℕ} (r : Record) → Good len r → (q : Picture) → r.mask ≡ Some q → 1 ≤ q.header.width
mask_wide r g q a = (sound q.header (fields_ok q (g.mask q a))).width.0

-- the columns that are read lie in the pictures
module _ {size : ℕ} (p : Plan) (g : Good size p.record) (columns mask_columns : List ℕ) (m : Mapped p columns mask_columns) where
  pub columns_inside : p.target.columns.index + p.target.columns.count ≤ magnitude32 p.record.cx
      → ForSome p.record.source (λ a. InPicture a.header.width columns)
  columns_inside l a e k i =
      let rec : Record = p.record in
      let f = source_fits rec g a e in
      let q : k < p.target.columns.count = omega (arith, m.as_many) in
      let w : ℕ = a.header.width in
      let n : ℕ = p.target.columns.index + k in
      omega (arith, m.source a e k q, column_inside a.x rec.cx_src rec.cx n w (omega arith) f.cx.0 f.columns.1)

  pub mask_columns_inside : ForSome p.record.mask (λ a. InPicture a.header.width mask_columns)
  unfolding mask_pixel
  mask_columns_inside a e k i =
      let q : k < p.target.columns.count = omega (arith, m.as_many_masks) in
      let place = signed32 a.x +ℤ pos (p.target.columns.index + k) in
      omega (arith, m.mask a e k q, remainder_lt place a.header.width (mask_wide p.record g a e))

-- ---- so the row's rule is the play's

-- the rows of a plan's target that are drawn after i turns
abbrev pub PlanRows : (s : List ℕ) → Plan → (s₀ j₀ s1 j1 : List ℕ) (i : ℕ) → Type 0
PlanRows s p s₀ j₀ s1 j1 i =
    Rows p.width (paint_on p.target (meaning_in s p.record) p.brush) p.at p.target.columns.at p.target.columns.count
    p.target.rows.at p.target.rows.count s₀ j₀ s1 j1 (p.at + p.target.columns.count * i) i

module _ (s : List ℕ) (p : Plan) (i : ℕ) (rule : Rule) (colours bits : List ℕ) (e : rule ≡ rule_of p.record.action p.brush)
    (c : (q : ℕ) → q < p.target.columns.count → get_or colours q 0 ≡ source_pixel s p.record (p.target.columns.index + q) (p.target.rows.index + i))
    (b : (q : ℕ) → q < p.target.columns.count → get_or bits q 0 ≡ mask_bit s p.record (p.target.columns.index + q) (p.target.rows.index + i)) where
  abbrev x : ℕ
  x = p.target.columns.at

  abbrev y : ℕ
  y = p.target.rows.at + i

  abbrev n : ℕ
  n = p.target.columns.count

  abbrev paint : Paint
  paint = paint_on p.target (meaning_in s p.record) p.brush

  row_alike : AgreeOn (row_paint rule colours bits x) paint (row x n y)
  row_alike = agree_row (row_paint rule colours bits x) paint x n y (λ k old a h.
      let q : ℕ = k - x in
      let l : q < n = omega arith in
      let line : p.target.rows.index + i ≡ p.target.rows.index + (y - p.target.rows.at) = omega arith in
      λ u. painted_by (e u) ((c q l ∙ ap (source_pixel s p.record (p.target.columns.index + q)) line) u)
      ((b q l ∙ ap (mask_bit s p.record (p.target.columns.index + q)) line) u) old)

  -- a turn of the loop over the rows
  pub rows_more : (s₀ j₀ s1 j1 s2 j2 : List ℕ) → PlanRows s p s₀ j₀ s1 j1 i → i < p.target.rows.count → length colours ≡ n
      → Painted p.width (record { at = p.at + n * i; x = x; y = y }) rule colours bits s1 j1 s2 j2 → PlanRows s p s₀ j₀ s2 j2 (i + 1)
  rows_more s₀ j₀ s1 j1 s2 j2 r h z painted =
      let w : ℕ = p.width in
      let f : Paint = row_paint rule colours bits x in
      let k : ℕ = p.at + n * i in
      let e : k + n ≡ p.at + n * (i + 1) = omega (arith, mul-add n i 1) in
      subst (λ (q : ℕ). Rows w paint p.at x n p.target.rows.at p.target.rows.count s₀ j₀ s2 j2 q (i + 1)) e
      (rows_turn w paint p.at x n p.target.rows.at p.target.rows.count s₀ j₀ s1 j1 s2 j2 k i r h
      (painted.0 ∙ ap (λ (m : ℕ). drawn w f (row x m y) s1) z ∙ drawn_alike w f paint (row x n y) s1 row_alike)
      (painted.1 ∙ ap (λ (m : ℕ). sets j1 (k * stride) (bytes_of (saved w f (row x m y) s1))) z
      ∙ ap (λ (es : List Entry). sets j1 (k * stride) (bytes_of es)) (saved_alike w f paint (row x n y) s1 row_alike)))

-- ---- what is asked of a row within its rows: its pixels are on the surface, and its records in the journal

pub row_inside : (w h y : ℕ) → y < h → y * w + w ≤ h * w
row_inside w h y a = omega (arith, mul-le-mul_left w a, mul-suc w y, mul_comm w y, mul_comm w h)
