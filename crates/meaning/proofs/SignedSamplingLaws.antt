-- A word's size and sign are its signed number's (`twos_complement`), so a column is compared by cases on two signs; and the remainder of
-- -(a + 1) takes one multiple of the width more than that of a.
use mathlib.Core.Path.{◌≡◌, refl, sym, ap, ◌∙◌}
use mathlib.Core.Bool.{Bool, true, false, cond, not, beq, true≢false}
use Prim.Native.Nat.{ℕ, zero, suc, ◌+◌, ◌-◌, ◌*◌, ◌/◌, ◌^◌, ◌≤◌, ◌<◌}
use native.Mathlib.Nat.{suc-mul}
use native.Mathlib.Omega.{arith}
use lib.Dec.{ltb}
use lib.IntN.{ℤ, pos, negsuc, neg_ℤ, nat_abs, ◌+ℤ◌}
use lib.Signed.{lt_z}
use borrow.Author.Tests.{le-ltb, lt-ltb}
use Rattle.words.specs.Bytes.{signed32}
use Rattle.words.proofs.ChoiceLaws.{cond_true, cond_false}
use Rattle.words.proofs.SignedLaws.{twos_complement, plain_size}
use Rattle.pixel.specs.Position.{remainder, mask_pixel, source_position}
use Rattle.pixel.proofs.PositionLaws.{remainder_lt, remainder_pos, remainder_neg}
use Rattle.judge.specs.SignedGeometry.{first_column}
use Rattle.judge.proofs.SignedGeometryLaws.{below_zero}
use Rattle.meaning.specs.Sampling.{source_start, mirrored, source_column}
use Rattle.meaning.specs.SignedSampling.{signs_differ, LeastRemainder, SaysSampling}

-- ---- the signs

differ : (a b : Bool) → cond a (not b) b ≡ not (beq a b)
differ true true = refl
differ true false = refl
differ false true = refl
differ false false = refl

turned : (cx cx_src : ℕ) → cx < 2 ^ 32 → cx_src < 2 ^ 32 → mirrored cx cx_src ≡ signs_differ (signed32 cx) (signed32 cx_src)
unfolding mirrored signs_differ
turned cx cx_src h l =
    let C = twos_complement cx h in
    let S = twos_complement cx_src l in
    simp (← C.sign, ← S.sign) (differ (lt_z (signed32 cx) (pos 0)) (lt_z (signed32 cx_src) (pos 0)))

-- ---- the source's column

-- k is the corner where it is not negative
start_is : (x cx : ℤ) (k p : ℕ) → (lt_z x (pos 0) ≡ false → k ≡ nat_abs x) → lt_z (first_column x cx) (pos 0) ≡ false
    → pos (cond (lt_z cx (pos 0)) (k - nat_abs cx) k + p) ≡ first_column x cx +ℤ pos p
unfolding first_column
start_is (pos a) (pos b) k p e t = simp (le-ltb b 0 (omega arith), e (le-ltb a 0 (omega arith)))
start_is (pos a) (negsuc b) k p e t =
    let f : ltb a (suc b) ≡ false = sym (below_zero a (suc b)) ∙ t in
    ap (λ (n : ℕ). pos (n - suc b + p)) (e (le-ltb a 0 (omega arith)))
    ∙ sym (ap (λ (z : ℤ). z +ℤ pos p) (cond_false (ltb a (suc b)) (negsuc (suc b - suc a)) (pos (a - suc b)) f))
start_is (negsuc a) (pos b) k p e t = absurd (true≢false (simp (le-ltb b 0 (omega arith)) at t))
start_is (negsuc a) (negsuc b) k p e t = absurd (true≢false t)

column : (x cx_src cx i : ℕ) → x < 2 ^ 32 → cx_src < 2 ^ 32 → cx < 2 ^ 32 → lt_z (first_column (signed32 x) (signed32 cx_src)) (pos 0) ≡ false
    → pos (source_column x cx_src cx i)
    ≡ first_column (signed32 x) (signed32 cx_src)
    +ℤ pos (source_position (signs_differ (signed32 cx) (signed32 cx_src)) i (nat_abs (signed32 cx_src)) (nat_abs (signed32 cx)))
unfolding source_column source_start
column x cx_src cx i hx hs hc t =
    let X = twos_complement x hx in
    let S = twos_complement cx_src hs in
    let C = twos_complement cx hc in
    simp (turned cx cx_src hc hs, ← S.sign, ← S.size, ← C.size)
    (start_is (signed32 x) (signed32 cx_src) x _ (λ u. sym (plain_size x (sym X.sign ∙ u)) ∙ sym X.size) t)

-- ---- the mask's column

-- r − m, where r is below m
less : (m r a : ℕ) → m ≡ r + suc a → neg_ℤ (pos m) +ℤ pos r ≡ negsuc a
less zero r a e = let no : ⊥ = omega arith in absurd no
less (suc m) r a e =
    cond_true (ltb r (suc m)) (negsuc (suc m - suc r)) (pos (r - suc m)) (lt-ltb r (suc m) (omega arith)) ∙ ap negsuc (omega arith)

rest_of : (z : ℤ) (w : ℕ) → 1 ≤ w → LeastRemainder z w (remainder z w)
rest_of (pos a) w h = record { below = remainder_lt (pos a) w h; times = pos (a / w); rest = ap pos (sym (remainder_pos a w)) }
rest_of (negsuc a) w h = record {
  below = remainder_lt (negsuc a) w h;
  times = negsuc (a / w);
  rest = sym (less (suc (a / w) * w) (remainder (negsuc a) w) a (omega (arith, remainder_neg a w h, suc-mul (a / w) w)));
}

pub says_sampling : SaysSampling
unfolding mask_pixel
says_sampling = record { turned = turned; column = column; mask = λ z i w h. rest_of (z +ℤ pos i) w h }
