-- Each test is one of the word's size and sign, which are its signed number's (`twos_complement`), and so holds by cases on the two signs.
use mathlib.Core.Path.{◌≡◌, refl, sym, ap, ◌∙◌}
use mathlib.Core.Bool.{Bool, true, false, cond, ◌||◌, or-false}
use Prim.Native.Nat.{ℕ, suc, ◌+◌, ◌-◌}
use native.Mathlib.Omega.{arith}
use lib.Dec.{ltb, leb-suc-suc}
use lib.IntN.{ℤ, pos, negsuc, sub_ℕ, nat_abs}
use lib.Signed.{lt_z}
use borrow.Author.Tests.{le-ltb}
use Rattle.words.specs.Bytes.{signed32}
use Rattle.words.proofs.SignedLaws.{twos_complement, plain_size}
use Rattle.judge.specs.SignedGeometry.{outside_million, first_column, behind_column, SaysRefusal12}

beyond : (z : ℤ) → ltb 1000000 (nat_abs z) ≡ outside_million z
unfolding outside_million
beyond (pos a) = refl
beyond (negsuc a) = leb-suc-suc 1000000 a ∙ sym (or-false (ltb 999999 a))

-- ---- a rectangle's columns

-- a is below b just if a - b is below 0
pub below_zero : (a b : ℕ) → lt_z (sub_ℕ a b) (pos 0) ≡ ltb a b
below_zero a b = go (ltb a b)
  where
    go : (t : Bool) → lt_z (cond t (negsuc (b - suc a)) (pos (a - b))) (pos 0) ≡ t
    go true = refl
    go false = le-ltb (a - b) 0 (omega arith)

never_below : (a : ℕ) → ltb a 0 ≡ false
never_below a = le-ltb a 0 (omega arith)

-- sticks_out over signed numbers; k is the corner where it is not negative
abbrev out : (x cx : ℤ) (k n : ℕ) → Bool
out x cx k n = lt_z x (pos 0) || cond (lt_z cx (pos 0)) (ltb k (nat_abs cx) || ltb n k) (ltb n (k + nat_abs cx))

out_is : (x cx : ℤ) (k n : ℕ) → (lt_z x (pos 0) ≡ false → k ≡ nat_abs x)
    → out x cx k n ≡ (lt_z (first_column x cx) (pos 0) || lt_z (pos n) (behind_column x cx))
unfolding first_column behind_column
out_is (pos a) (pos b) k n e = simp (never_below, e (never_below a))
out_is (pos a) (negsuc b) k n e = simp (never_below, below_zero, e (never_below a))
out_is (negsuc a) (pos b) k n e = simp never_below
out_is (negsuc a) (negsuc b) k n e = refl

pub says_refusal_12 : SaysRefusal12
says_refusal_12 = record {
  corner = λ x h. ap (ltb 1000000) (sym (twos_complement x h).size) ∙ beyond (signed32 x);
  side = λ most x h. ap (λ (n : ℕ). ltb n 1 || ltb most n) (sym (twos_complement x h).size);
  inside = λ x cx n h l.
      let X = twos_complement x h in
      let C = twos_complement cx l in
      simp (← X.sign, ← C.sign, ← C.size)
      (out_is (signed32 x) (signed32 cx) x n (λ t. sym (plain_size x (sym X.sign ∙ t)) ∙ sym X.size));
}
