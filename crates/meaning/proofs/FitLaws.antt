-- What acceptance says of the target's extents and of the source's rectangle. Assumes nothing.
use mathlib.Core.Path.{◌≡◌}
use mathlib.Core.Bool.{Bool, true, false, cond, ◌||◌}
use Prim.Native.Nat.{ℕ, ◌+◌, ◌-◌, ◌^◌, ◌≤◌, ◌<◌}
use native.Mathlib.Omega.{arith}
use lib.Dec.{ltb}
use borrow.Author.Tests.{ltb-false}
use Rattle.std.specs.Prelude.{Some}
use Rattle.std.specs.Option.{ForSome}
use Rattle.words.specs.Bytes.{negative32, magnitude32}
use Rattle.words.proofs.SignedLaws.{plain_low}
use Rattle.words.proofs.ChoiceLaws.{or_none}
use Rattle.dib.specs.Header.{rows}
use Rattle.judge.specs.declared.Picture.{Picture}
use Rattle.judge.specs.declared.Record.{Record}
use Rattle.judge.specs.Geometry.{bad_side, far, sticks_out}
use Rattle.judge.specs.Good.{Good}
use Rattle.meaning.specs.Sampling.{source_start, mirrored, source_column}
use Rattle.meaning.proofs.ColumnLaws.{position_lt}

side : (most x : ℕ) → bad_side most x ≡ false → (1 ≤ magnitude32 x) × (magnitude32 x ≤ most)
side most x e = let p = or_none (ltb (magnitude32 x) 1) _ e in (ltb-false _ 1 p.0, ltb-false most _ p.1)

-- a source's columns (or rows) that do not stick out of its n
inside : (x cx n : ℕ) → sticks_out x cx n ≡ false → (x < 2 ^ 31) × (source_start x cx + magnitude32 cx ≤ n)
unfolding source_start
inside x cx n e = let p = or_none (negative32 x) _ e in (plain_low x p.0, go (negative32 cx) p.1)
  where
    go : (t : Bool) → cond t (ltb x (magnitude32 cx) || ltb n x) (ltb n (x + magnitude32 cx)) ≡ false
        → cond t (x - magnitude32 cx) x + magnitude32 cx ≤ n
    go true q = let o = or_none (ltb x (magnitude32 cx)) (ltb n x) q in omega (arith, ltb-false x _ o.0, ltb-false n x o.1)
    go false q = ltb-false n _ q

pub record Extents (r : Record) : Type 0 where
  pub columns : (1 ≤ magnitude32 r.cx) × (magnitude32 r.cx ≤ 4096)
  pub lines : (1 ≤ magnitude32 r.cy) × (magnitude32 r.cy ≤ 4096)

pub record SourceIn (r : Record) (p : Picture) : Type 0 where
  pub cx : (1 ≤ magnitude32 r.cx_src) × (magnitude32 r.cx_src ≤ 16384)
  pub cy : (1 ≤ magnitude32 r.cy_src) × (magnitude32 r.cy_src ≤ 16384)
  pub columns : (p.x < 2 ^ 31) × (source_start p.x r.cx_src + magnitude32 r.cx_src ≤ p.header.width)
  pub lines : (p.y < 2 ^ 31) × (source_start p.y r.cy_src + magnitude32 r.cy_src ≤ rows p.header)

pub extents : {len : ℕ} (r : Record) → Good len r → Extents r
extents r g =
    let a = or_none (bad_side 4096 r.cx) (bad_side 4096 r.cy) (or_none _ (far r.x) (or_none _ (far r.y) g.target).0).0 in
    record { columns = side 4096 r.cx a.0; lines = side 4096 r.cy a.1 }

pub source_fits : {len : ℕ} (r : Record) → Good len r → ForSome r.source (SourceIn r)
source_fits r g p q =
    let a = or_none _ (sticks_out p.y r.cy_src (rows p.header)) (g.inside p q) in
    let b = or_none _ (sticks_out p.x r.cx_src p.header.width) a.0 in
    let c = or_none _ (far p.x) (or_none _ (far p.y) b.0).0 in
    let d = or_none (bad_side 16384 r.cx_src) (bad_side 16384 r.cy_src) c.0 in
    record {
      cx = side 16384 r.cx_src d.0;
      cy = side 16384 r.cy_src d.1;
      columns = inside p.x r.cx_src p.header.width b.1;
      lines = inside p.y r.cy_src (rows p.header) a.1;
    }

-- a column (or row) that is read lies in the picture
pub column_inside : (x cx_src cx i n : ℕ) → i < magnitude32 cx → 1 ≤ magnitude32 cx_src → source_start x cx_src + magnitude32 cx_src ≤ n
    → source_column x cx_src cx i < n
unfolding source_column
column_inside x cx_src cx i n h l p = omega (arith, position_lt (mirrored cx cx_src) i (magnitude32 cx_src) (magnitude32 cx) h l)

-- so does the row that a row of the target reads
pub row_inside : {len : ℕ} (r : Record) → Good len r → (p : Picture) → r.source ≡ Some p → (j row : ℕ) → j < magnitude32 r.cy
    → row ≡ source_column p.y r.cy_src r.cy j → row < rows p.header
row_inside r g p there j row h e =
    let fits = source_fits r g p there in
    let l = column_inside p.y r.cy_src r.cy j (rows p.header) h fits.cy.0 fits.lines.1 in
    omega (arith, l, e)
