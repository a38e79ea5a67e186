-- Condition 2 pixel by pixel: what follows from the definition of a play drawn, the middle of `Condition2`. Definitions, and the claim.
use Rattle.std.specs.Prelude.{◌≡◌, ℕ, ◌*◌, ◌<◌, List, map, length, get_or}
use Rattle.region.specs.declared.Target.{Target}
use Rattle.words.specs.Bytes.{byte_at}
use Rattle.region.specs.Axis.{within}
use Rattle.region.specs.Target.{Point}
use Rattle.region.specs.Exact.{Covers, Words, Exact}
use Rattle.journal.specs.Drawing.{pixel_index}
use Rattle.journal.specs.Records.{entry, saved}
use Rattle.memory.specs.Playing.{counted, drawn_by}
use Rattle.composite.specs.Paints.{painted_by}
use Rattle.meaning.specs.Meaning.{Meaning, meaning_of, target_in}
use Rattle.player.specs.Calls.{Play, work}

-- a record's bytes are bytes
abbrev pub Bytes : List ℕ → Type 0
Bytes s = (k : ℕ) → byte_at s k < 256

-- the pixel at column x and row y of a surface of this width
abbrev pub pixel : (width : ℕ) → List ℕ → (x y : ℕ) → ℕ
pixel width s x y = get_or s (pixel_index width x y) 0

-- of the pixel at x, y of a clipped target: its source pixel and its mask bit, those of its column and row in the whole target
abbrev pub source_at : Meaning → Target → (x y : ℕ) → ℕ
source_at k t x y = k.source (within t.columns x) (within t.rows y)

abbrev pub bit_at : Meaning → Target → (x y : ℕ) → ℕ
bit_at k t x y = k.bit (within t.columns x) (within t.rows y)

-- the play p made the surface `after` of the surface s; its record means k and its clipped target is t
pub record Pixels (width height : ℕ) (p : Play) (s after : List ℕ) (k : Meaning) (t : Target) : Type 0 where
  -- "each pixel of the clipped target the number the published equations or raster operation define": of the OLD pixel
  pub inside : (x y : ℕ) → Covers t x y
      → pixel width after x y ≡ painted_by (k.rule p.terms.brush) (source_at k t x y) (bit_at k t x y) (pixel width s x y)
  -- which pixels those are: "every pixel of target and cut clip", where Bounds meet it
  pub target : Bytes p.bytes → Words p.terms.clip → Exact width height p.terms.clip k.bounds k.x k.y k.cx k.cy t
  -- "changes no other"
  pub outside : (x y : ℕ) → x < width → (Covers t x y → ⊥) → pixel width after x y ≡ pixel width s x y
  -- each journal record holds the pixel of the surface before the play
  pub records : saved width (work width height p).paint (work width height p).points s
      ≡ map (λ (q : Point). entry q.x q.y (pixel width s q.x q.y)) (work width height p).points
  -- "answers how many there were"
  pub count : counted (work width height p) ≡ t.rows.count * t.columns.count

abbrev pub PixelByPixel : Type 0
PixelByPixel =
    (width height : ℕ) (p : Play) (s : List ℕ) → length s ≡ width * height
    → Pixels width height p s (drawn_by width (work width height p) s) (meaning_of p.bytes) (target_in width height (meaning_of p.bytes) p.terms.clip)
