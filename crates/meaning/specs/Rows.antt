-- What a row of source pixels, and a row of mask bits, is read with. Definitions only.
use Rattle.std.specs.Prelude.{◌≡◌, List, ℕ, ◌<◌, length, get_or, Option, Some, None}
use Rattle.std.specs.Option.{ForSome}
use Rattle.words.specs.Bytes.{signed32}
use Rattle.words.specs.Filled.{Filled}
use Rattle.pixel.specs.Position.{mask_pixel}
use Rattle.dib.specs.declared.Masks.{Masks}
use Rattle.dib.specs.Header.{rows}
use Rattle.sample.specs.Colour.{masks_in}
use Rattle.sample.specs.At.{Colours}
use Rattle.judge.specs.declared.Picture.{Picture}
use Rattle.judge.specs.declared.Record.{Record}
use Rattle.judge.specs.Good.{Good}
use Rattle.picture.specs.Shown.{picture_palette}
use Rattle.meaning.specs.Sampling.{is_format1, source_column, source_shown, mask_shown}

-- every column lies in a picture so wide
abbrev pub InPicture : (width : ℕ) (columns : List ℕ) → Type 0
InPicture width columns = (k : ℕ) → k < length columns → get_or columns k 0 < width

-- the first n places of a buffer were filled by a picture's rule; where there is no picture, nothing was written
abbrev pub FilledFrom : Option Picture → (rule : Picture → ℕ → ℕ) (n : ℕ) (before after : List ℕ) → Type 0
FilledFrom None rule n before after = after ≡ before
FilledFrom (Some p) rule n before after = Filled (rule p) before n after

-- with the source pixels of these columns, in the row that row j of the target reads
abbrev pub SourceFilled : (s : List ℕ) → Record → (j : ℕ) (columns before after : List ℕ) → Type 0
SourceFilled s r j columns before after =
    FilledFrom r.source (λ p k. source_shown s r.action p (get_or columns k 0) (source_column p.y r.cy_src r.cy j)) (length columns)
    before after

-- with the mask bits
abbrev pub MaskFilled : (s : List ℕ) → Record → (j : ℕ) (columns before after : List ℕ) → Type 0
MaskFilled s r j columns before after =
    FilledFrom r.mask (λ p k. mask_shown s p (get_or columns k 0) (mask_pixel (signed32 p.y) j (rows p.header))) (length columns)
    before after

-- what is asked of the source's masks and columns is asked where there is a source
pub record SourceRow (s : List ℕ) (r : Record) (m : Masks) (palette columns : List ℕ) : Type 0 where
  pub good : Good (length s) r
  pub masks : ForSome r.source (λ p. m ≡ masks_in p.header (is_format1 r.action))
  pub colours : Colours palette
  pub shows : palette ≡ picture_palette s r.source
  pub inside : ForSome r.source (λ p. InPicture p.header.width columns)

pub record MaskRow (s : List ℕ) (r : Record) (columns : List ℕ) : Type 0 where
  pub good : Good (length s) r
  pub inside : ForSome r.mask (λ p. InPicture p.header.width columns)
