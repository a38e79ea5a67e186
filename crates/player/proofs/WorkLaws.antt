-- All that the journal's laws ask of a play's work: its points lie on the surface, and it makes 32-bit numbers of 32-bit numbers.
-- Assumes nothing.
use mathlib.Core.Bool.{Bool, true, false, cond}
use Prim.Native.Nat.{ℕ, ◌^◌, ◌<◌}
use native.Mathlib.Omega.{arith}
use lib.Dec.{eqb}
use Rattle.pixel.specs.Raster.{raster_pixel}
use Rattle.pixel.proofs.RasterLaws.{raster_lt}
use Rattle.pixel.proofs.CutLaws.{cut_where_needed}
use Rattle.region.specs.declared.Target.{Target}
use Rattle.region.specs.Target.{points_in}
use Rattle.region.proofs.TargetLaws.{OnBoth, inside}
use Rattle.journal.specs.All.{All}
pub use Rattle.journal.proofs.UndoLaws.{OnSurface}
use Rattle.journal.proofs.UndoLaws.{Word}
use Rattle.journal.proofs.PointwiseLaws.{all_block}
use Rattle.composite.specs.declared.Rule.{Rule}
use Rattle.composite.specs.declared.Rule.TheVariants.{Blend0, Blend1, Raster, Masked}
use Rattle.composite.specs.Paints.{painted_by}
use Rattle.meaning.specs.Meaning.{Meaning, meaning_of, target_in, work_of}
use Rattle.meaning.proofs.ConstantAlphaLaws.{ConstantInByte, constant_in_byte}
use Rattle.player.specs.Calls.{Play, work}
use Rattle.player.specs.Pixels.{source_at, bit_at}

-- ---- the points

target_on : (w h cx cy : ℕ) (t : Target) → OnBoth w h cx cy t → All (OnSurface w h) (points_in t)
target_on w h cx cy t on =
    all_block (OnSurface w h) t.columns.at t.columns.count t.rows.at t.rows.count
    (λ x y a b c d. record { column = omega (arith, on.columns.ends (omega arith)); line = omega (arith, on.rows.ends (omega arith)) })

pub points_on : (w h : ℕ) (p : Play) → All (OnSurface w h) (work w h p).points
unfolding work work_of
points_on w h p =
    let k : Meaning = meaning_of p.bytes in
    target_on w h k.cx k.cy (target_in w h k p.terms.clip) (inside w h p.terms.clip k.bounds k.x k.y k.cx k.cy)

-- ---- the pixels

-- the old alpha, and 24 bits of colour
raster_word : (op brush s d : ℕ) → Word d → Word (raster_pixel op brush s d)
unfolding raster_pixel
raster_word op brush s d h = omega (arith, raster_lt op brush s d)

either_word : (t : Bool) (a b : ℕ) → Word a → Word b → Word (cond t a b)
either_word true a b ha hb = ha
either_word false a b ha hb = hb

-- a blended pixel fits since its constant alpha is a byte
painted_word : (rule : Rule) (source bit old : ℕ) → ConstantInByte rule → Word old → Word (painted_by rule source bit old)
painted_word (Blend0 c) source bit old a h = (cut_where_needed.pixel0 source old c a).fits
painted_word (Blend1 c) source bit old a h = (cut_where_needed.pixel1 source old c a).fits
painted_word (Raster op brush) source bit old a h = raster_word op brush source old h
painted_word (Masked foreground background brush) source bit old a h =
    either_word (eqb bit 1) _ _ (raster_word foreground brush source old h) (raster_word background brush source old h)

pub paints_pixels : (w h : ℕ) (p : Play) (old x y : ℕ) → old < 2 ^ 32 → (work w h p).paint old x y < 2 ^ 32
unfolding work work_of
paints_pixels w h p old x y =
    let k : Meaning = meaning_of p.bytes in
    let t : Target = target_in w h k p.terms.clip in
    painted_word (k.rule p.terms.brush) (source_at k t x y) (bit_at k t x y) old (constant_in_byte p.bytes p.terms.brush)
