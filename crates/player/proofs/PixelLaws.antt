-- Condition 2 pixel by pixel. Assumes nothing.
use mathlib.Core.Path.{◌≡◌}
use mathlib.Core.List.{List}
use Prim.Native.Nat.{ℕ, ◌+◌, ◌*◌, ◌^◌, ◌≤◌, ◌<◌}
use native.Mathlib.Nat.{mul_comm, mul-le-mul_right}
use native.Mathlib.Omega.{arith}
use lib.ListN.{length}
use Rattle.words.specs.Bytes.{le32}
use Rattle.words.proofs.ByteLaws.{le_lt}
use Rattle.emr.specs.Fixed.{fields_at}
use Rattle.judge.specs.Record.{record_of}
use Rattle.region.specs.declared.Target.{Target}
use Rattle.region.specs.declared.Rectangle.{Rectangle}
use Rattle.region.specs.Target.{points_in}
use Rattle.region.specs.Exact.{Covers, Words, Exact}
use Rattle.region.proofs.ExactLaws.{exact}
use Rattle.region.proofs.TargetLaws.{OnBoth, inside, length_points}
use Rattle.journal.specs.Drawing.{Paint, drawn}
use Rattle.journal.proofs.PointwiseLaws.{drawn_inside, drawn_outside, saved_before}
use Rattle.meaning.specs.Meaning.{Meaning, meaning_of, paint_on, target_in, work_of}
use Rattle.player.specs.Calls.{work}
use Rattle.player.specs.Pixels.{Bytes, pixel, PixelByPixel}

-- a target on the surface, drawn by any rule
module _ (w h : ℕ) (cx cy : ℕ) (f : Paint) (t : Target) (on : OnBoth w h cx cy t) (s : List ℕ) where
  covered : length s ≡ w * h → (x y : ℕ) → Covers t x y → pixel w (drawn w f (points_in t) s) x y ≡ f (pixel w s x y) x y
  covered e x y c =
      let m : (t.rows.at + t.rows.count) * w ≤ h * w = mul-le-mul_right w (on.rows.ends (omega arith)) in
      drawn_inside w f t.columns.at t.columns.count t.rows.at t.rows.count s on.columns.ends x y
      c.column_in.left c.column_in.right c.row_in.left c.row_in.right (omega (arith, mul_comm h w))

  not_covered : (x y : ℕ) → x < w → (Covers t x y → ⊥) → pixel w (drawn w f (points_in t) s) x y ≡ pixel w s x y
  not_covered x y l g =
      drawn_outside w f t.columns.at t.columns.count t.rows.at t.rows.count s on.columns.ends x y l
      (λ a b c d. g (record { column_in = record { left = a; right = b }; row_in = record { left = c; right = d } }))

-- a record's target is the one that document 01 describes
target_exact : (w h : ℕ) (s : List ℕ) (clip : Rectangle) → Bytes s → Words clip
    → Exact w h clip (meaning_of s).bounds (meaning_of s).x (meaning_of s).y (meaning_of s).cx (meaning_of s).cy (target_in w h (meaning_of s) clip)
unfolding meaning_of record_of fields_at
target_exact w h s clip b c =
    let word : (at : ℕ) → le32 s at < 2 ^ 32 = λ at. le_lt 4 s at b in
    exact w h clip _ _ _ _ _ c (record { left = word 8; top = word 12; right = word 16; bottom = word 20 }) (word _) (word _) (word _) (word _)

pub pixel_by_pixel : PixelByPixel
unfolding work work_of
pixel_by_pixel w h p s e =
    let k : Meaning = meaning_of p.bytes in
    let t : Target = target_in w h k p.terms.clip in
    let on : OnBoth w h k.cx k.cy t = inside w h p.terms.clip k.bounds k.x k.y k.cx k.cy in
    let f : Paint = paint_on t k p.terms.brush in
    record {
      inside = covered w h k.cx k.cy f t on s e;
      target = target_exact w h p.bytes p.terms.clip;
      outside = not_covered w h k.cx k.cy f t on s;
      records = saved_before w f t.columns.at t.columns.count t.rows.at t.rows.count s on.columns.ends;
      count = length_points t;
    }
