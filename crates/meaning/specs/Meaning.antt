-- What an accepted record means, as a value: drawing is defined on it and never looks at the record's bytes. Definitions only.
use Rattle.std.specs.Prelude.{ℕ, ◌+◌, List}
use Rattle.words.specs.Bytes.{le32}
use Rattle.judge.specs.declared.Action.{Action}
use Rattle.judge.specs.declared.Action.TheVariants as act
use Rattle.judge.specs.declared.Record.{Record}
use Rattle.judge.specs.Record.{record_of}
use Rattle.region.specs.declared.Target.{Target}
use Rattle.region.specs.declared.Rectangle.{Rectangle}
use Rattle.region.specs.Axis.{within}
use Rattle.region.specs.Written.{rectangle_at}
use Rattle.region.specs.Target.{Point, target_of, points_in}
use Rattle.journal.specs.Drawing.{Paint, Work}
use Rattle.composite.specs.declared.Rule.{Rule}
use Rattle.composite.specs.declared.Rule.TheVariants.{Blend0, Blend1, Raster, Masked}
use Rattle.composite.specs.Paints.{painted_by}
use Rattle.meaning.specs.declared.Terms.{Terms}
use Rattle.meaning.specs.Sampling.{source_pixel, mask_bit}

pub record Meaning : Type 0 where
  pub kind : ℕ
  -- "Bounds 8..23 (left, top, right, bottom)"
  pub bounds : Rectangle
  -- the target's corner and extents, in two's complement
  pub x : ℕ
  pub y : ℕ
  pub cx : ℕ
  pub cy : ℕ
  -- what a pixel becomes, by the brush
  pub rule : (brush : ℕ) → Rule
  -- of column i and row j of the target: the source's pixel and the mask's bit
  pub source : (i j : ℕ) → ℕ
  pub bit : (i j : ℕ) → ℕ

abbrev pub rule_of : Action → (brush : ℕ) → Rule
rule_of (act.Blend0 a) brush = Blend0 a
rule_of (act.Blend1 a) brush = Blend1 a
rule_of (act.Masked f b) brush = Masked f b brush
rule_of (act.Raster o) brush = Raster o brush

abbrev pub meaning_in : List ℕ → Record → Meaning
meaning_in s r = record {
  kind = r.kind;
  bounds = r.bounds;
  x = r.x;
  y = r.y;
  cx = r.cx;
  cy = r.cy;
  rule = rule_of r.action;
  source = source_pixel s r;
  bit = mask_bit s r;
}

unfoldable pub meaning_of : List ℕ → Meaning
meaning_of s = meaning_in s (record_of s)

-- a play's terms as numbers of some bytes: the clip, then the brush
abbrev pub terms_at : (s : List ℕ) (at : ℕ) → Terms
terms_at s at = record { clip = rectangle_at s at; brush = le32 s (at + 16) }

-- ---- drawing it

-- what a play covers, whatever its shape: the points, in the order in which they are drawn, and of the point at x, y its column and
-- its row in the whole target
pub record Cover : Type 0 where
  pub points : List Point
  pub column : (x y : ℕ) → ℕ
  pub row : (x y : ℕ) → ℕ

-- the clipped target t, a rectangle
abbrev pub cover_in : Target → Cover
cover_in t = record { points = points_in t; column = λ x y. within t.columns x; row = λ x y. within t.rows y }

-- what a pixel of the cover becomes
abbrev pub paint_by : Cover → Meaning → (brush : ℕ) → Paint
paint_by c k brush old x y =
    painted_by (k.rule brush) (k.source (c.column x y) (c.row x y)) (k.bit (c.column x y) (c.row x y)) old

abbrev pub paint_on : Target → Meaning → (brush : ℕ) → Paint
paint_on t k brush = paint_by (cover_in t) k brush

abbrev pub target_in : (width height : ℕ) → Meaning → (clip : Rectangle) → Target
target_in width height k clip = target_of width height clip k.bounds k.x k.y k.cx k.cy

-- the pixels that a play of it counts, and what each becomes
abbrev pub work_by : Cover → Meaning → (brush : ℕ) → Work
work_by c k brush = record { points = c.points; paint = paint_by c k brush; kind = k.kind }

unfoldable pub work_of : (width height : ℕ) → Meaning → Terms → Work
work_of width height k o = work_by (cover_in (target_in width height k o.clip)) k o.brush
