-- What the rows of a play are drawn from, and what is left when they are drawn. Definitions only.
use Rattle.std.specs.Prelude.{◌≡◌, Option, Some, None, List, ℕ, ◌+◌, ◌*◌, ◌≤◌, ◌<◌, length, get_or}
use Rattle.words.specs.Bytes.{magnitude32, signed32}
use Rattle.pixel.specs.Position.{mask_pixel}
use Rattle.judge.specs.declared.Picture.{Picture}
use Rattle.judge.specs.Good.{Good}
use Rattle.region.specs.Target.{points_in}
use Rattle.journal.specs.Records.{stride, DrawnAndSaved}
use Rattle.meaning.specs.Sampling.{source_column}
use Rattle.meaning.specs.Meaning.{meaning_in, paint_on}
use Rattle.draw.specs.declared.Plan.{Plan}

-- an accepted record of so many bytes, whose clipped target has columns and lies on the surface and in the whole target, and a journal
-- with room for its pixels; no side of a surface is above 4,096
pub record Ready (size : ℕ) (p : Plan) (surface journal : List ℕ) : Type 0 where
  pub good : Good size p.record
  pub wide : p.width ≤ 4096
  pub some : 1 ≤ p.target.columns.count
  pub columns : p.target.columns.at + p.target.columns.count ≤ p.width
  pub lines : 1 ≤ p.target.rows.count → p.target.rows.at + p.target.rows.count ≤ 4096
  pub pixels : 1 ≤ p.target.rows.count → (p.target.rows.at + p.target.rows.count) * p.width ≤ length surface
  pub column_numbers : p.target.columns.index + p.target.columns.count ≤ magnitude32 p.record.cx
  pub line_numbers : 1 ≤ p.target.rows.count → p.target.rows.index + p.target.rows.count ≤ magnitude32 p.record.cy
  pub records : (p.at + p.target.columns.count * p.target.rows.count) * stride ≤ length journal

-- the columns of source and mask that the target's columns read, as far as there are such pictures
pub record Mapped (p : Plan) (source_columns mask_columns : List ℕ) : Type 0 where
  pub as_many : length source_columns ≡ p.target.columns.count
  pub as_many_masks : length mask_columns ≡ p.target.columns.count
  pub source : (q : Picture) → p.record.source ≡ Some q → (k : ℕ) → k < p.target.columns.count
      → get_or source_columns k 0 ≡ source_column q.x p.record.cx_src p.record.cx (p.target.columns.index + k)
  pub mask : (q : Picture) → p.record.mask ≡ Some q → (k : ℕ) → k < p.target.columns.count
      → get_or mask_columns k 0 ≡ mask_pixel (signed32 q.x) (p.target.columns.index + k) q.header.width

-- a buffer holds 0 as far as the row goes, where there is no such picture
abbrev pub Blank : Option Picture → (count : ℕ) (buffer : List ℕ) → Type 0
Blank picture count buffer = picture ≡ None → (k : ℕ) → k < count → get_or buffer k 0 ≡ 0

-- buffers for the columns of source and mask and for the pixels and bits of a row, each as long as the row
pub record Buffers (p : Plan) (source_columns mask_columns colours bits : List ℕ) : Type 0 where
  pub for_columns : length source_columns ≡ p.target.columns.count
  pub for_mask_columns : length mask_columns ≡ p.target.columns.count
  pub for_colours : length colours ≡ p.target.columns.count
  pub for_bits : length bits ≡ p.target.columns.count
  pub blank_colours : Blank p.record.source p.target.columns.count colours
  pub blank_bits : Blank p.record.mask p.target.columns.count bits

-- the target's pixels are drawn on the surface as record s means them, and their old ones stand in the journal from the plan's record on
abbrev pub Drawn : (s : List ℕ) → Plan → (surface journal surface_after journal_after : List ℕ) → Type 0
Drawn s p surface journal surface_after journal_after =
    DrawnAndSaved p.width p.at (paint_on p.target (meaning_in s p.record) p.brush) (points_in p.target)
    surface journal surface_after journal_after
