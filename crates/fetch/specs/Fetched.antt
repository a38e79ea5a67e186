-- A row of source pixels: of each target column the pixel at its source column. Definitions only.
use Rattle.std.specs.Prelude.{◌≡◌, true, List, ℕ, ◌+◌, ◌*◌, ◌≤◌, ◌<◌, length, get_or}
use Rattle.words.specs.Bytes.{le}
use Rattle.words.specs.Filled.{Filled}
use Rattle.pixel.specs.Position.{is_depth}
use Rattle.dib.specs.declared.Masks.{Masks}
use Rattle.sample.specs.Stored.{stored}
use Rattle.sample.specs.Colour.{Sampled, byte_masks, shown}

-- the pixel that column k of the row shows: `line` holds the source row's bytes, `columns` the source columns in the target's order
unfoldable pub fetched : (bits : ℕ) (palette : List ℕ) → Masks → (line columns : List ℕ) (k : ℕ) → ℕ
fetched bits palette m line columns k = shown bits palette m (stored bits line (get_or columns k 0))

-- the front of a list was filled with the pixels of the columns
abbrev pub Fetches : (bits : ℕ) (palette : List ℕ) → Masks → (line columns before after : List ℕ) → Type 0
Fetches bits palette m line columns before after = Filled (fetched bits palette m line columns) before (length columns) after

-- ---- what a row is fetched by

-- every source column lies in the row's bytes
abbrev pub InLine : (bits : ℕ) (line columns : List ℕ) → Type 0
InLine bits line columns = (k : ℕ) → k < length columns → (get_or columns k 0 + 1) * bits ≤ length line * 8

-- the columns lie in the row's bytes, and `out` has room for their pixels
pub record InRow (bits : ℕ) (line columns out : List ℕ) : Type 0 where
  pub long : length columns ≤ length out
  pub reach : InLine bits line columns

-- a pixel of two to four whole bytes, whose number is that of the bytes where it stands; no palette is looked up for it
pub record WholeBytes (bytes : ℕ) : Type 0 where
  pub some : 1 < bytes
  pub few : bytes ≤ 4
  pub number : (row : List ℕ) (column : ℕ) → stored (bytes * 8) row column ≡ le bytes row (column * bytes)

-- pixels that can be read. BI_BITFIELDS exists at 16 and 32 bits only, so at 24 the masks are BI_RGB's
pub record Readable (bits : ℕ) (m : Masks) : Type 0 where
  pub depth : is_depth bits ≡ true
  pub sampled : 8 < bits → Sampled m
  pub bytes : bits ≡ 24 → m ≡ byte_masks 0
