-- What the rows of a clipped target are drawn from is there: the target lies on the surface, and its columns are mapped. Assumes nothing.
use mathlib.Core.Path.{◌≡◌, sym, ap, ◌∙◌, subst}
use mathlib.Core.List.{List, []}
use Prim.Native.Nat.{ℕ, ◌+◌, ◌*◌, ◌≤◌, ◌<◌}
use native.Mathlib.Nat.{mul-le-mul_left, mul_comm}
use native.Mathlib.Omega.{arith}
use lib.ListN.{length, get_or, take, replicate, length-replicate, get_or-replicate}
use lib.Seq.{sets, get_or-take, length-take-le}
use Rattle.judge.specs.declared.Record.{Record}
use Rattle.judge.specs.Good.{Good}
use Rattle.region.specs.declared.Target.{Target}
use Rattle.region.specs.declared.Rectangle.{Rectangle}
use Rattle.region.specs.Target.{Point, block, points_in, target_of}
use Rattle.region.proofs.TargetLaws.{OnBoth, inside, block_none}
use Rattle.journal.specs.Drawing.{Paint, drawn}
use Rattle.journal.specs.Records.{stride, bytes_of, saved}
use Rattle.draw.specs.declared.Plan.{Plan}
use Rattle.draw.specs.Ready.{Ready, Buffers}

-- a target without columns draws nothing
module _ (w : ℕ) (f : Paint) (t : Target) (e : t.columns.count ≡ 0) (s : List ℕ) where
  no_points : points_in t ≡ []
  no_points = ap (λ (n : ℕ). block t.columns.at n t.rows.at t.rows.count) e ∙ block_none t.columns.at t.rows.at t.rows.count

  pub none_drawn : s ≡ drawn w f (points_in t) s
  unfolding drawn
  none_drawn = ap (λ (ps : List Point). drawn w f ps s) (sym no_points)

  pub none_saved : (j : List ℕ) (k : ℕ) → j ≡ sets j k (bytes_of (saved w f (points_in t) s))
  unfolding saved bytes_of
  none_saved j k = ap (λ (ps : List Point). sets j k (bytes_of (saved w f ps s))) (sym no_points)

-- a record's clipped target on a surface that passed status 1, and a journal with room for it
pub ready : (size h : ℕ) (clip : Rectangle) (p : Plan) (s j : List ℕ) → Good size p.record
    → p.target ≡ target_of p.width h clip p.record.bounds p.record.x p.record.y p.record.cx p.record.cy
    → p.width ≤ 4096 → h ≤ 4096 → length s ≡ p.width * h
    → (p.at + p.target.columns.count * p.target.rows.count) * stride ≤ length j → 1 ≤ p.target.columns.count → Ready size p s j
ready size h clip p s j good e wide high long room some =
    let w : ℕ = p.width in
    let r : Record = p.record in
    let on = subst (OnBoth w h r.cx r.cy) (sym e) (inside w h clip r.bounds r.x r.y r.cx r.cy) in
    record {
      good = good;
      wide = wide;
      some = some;
      columns = on.columns.ends some;
      lines = λ l. omega (arith, on.rows.ends l);
      pixels = λ l. omega (arith, mul-le-mul_left w (on.rows.ends l), mul_comm w (p.target.rows.at + p.target.rows.count));
      column_numbers = on.columns.last some;
      line_numbers = on.rows.last;
      records = room;
    }

-- the front of new buffers holds nothing but 0
pub fresh : (p : Plan) (n : ℕ) → p.target.columns.count ≤ n → let front : List ℕ = take p.target.columns.count (replicate n 0) in
    Buffers p front front front front
fresh p n room = record {
  for_columns = long;
  for_mask_columns = long;
  for_colours = long;
  for_bits = long;
  blank_colours = λ absent. blank;
  blank_bits = λ absent. blank;
}
  where
    long : length (take p.target.columns.count (replicate {A = ℕ} n 0)) ≡ p.target.columns.count
    long = length-take-le p.target.columns.count (replicate {A = ℕ} n 0) (omega (arith, length-replicate {A = ℕ} n 0))

    blank : (k : ℕ) → k < p.target.columns.count → get_or (take p.target.columns.count (replicate {A = ℕ} n 0)) k 0 ≡ 0
    blank k l = get_or-take p.target.columns.count (replicate {A = ℕ} n 0) k 0 l ∙ get_or-replicate {A = ℕ} n k 0 0 (omega arith)
