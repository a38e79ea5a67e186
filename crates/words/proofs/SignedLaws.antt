-- Below 2^31 a word is its own number, and from there on its number is 2^32 less: each reading says so in both halves.
use mathlib.Core.Path.{◌≡◌, refl, sym, ap, ◌∙◌}
use mathlib.Core.Bool.{Bool, true, false}
use Prim.Native.Nat.{ℕ, suc, ◌+◌, ◌-◌, ◌^◌, ◌≤◌, ◌<◌}
use native.Mathlib.Omega.{arith}
use lib.Dec.{ltb}
use lib.IntN.{ℤ, pos, negsuc, neg_ℤ, sub_ℕ, nat_abs, ◌+ℤ◌}
use lib.Signed.{lt_z}
use borrow.Author.Tests.{leb-true, leb-false, le-ltb}
use Rattle.std.specs.Int.{w32, cast_signed, cast_unsigned, is_negative}
use Rattle.std.proofs.lemmas.Int.{to_z_pos, of_z-to_z}
use Rattle.std.proofs.Math.Facts.{to_z-neg}
use Rattle.words.specs.Bytes.{signed32, negative32, magnitude32, raised}
use Rattle.words.specs.Signed.{TwosComplement}
use Rattle.words.proofs.ChoiceLaws.{cond_true, cond_false}

-- ---- the lower half

module _ (x : ℕ) (t : negative32 x ≡ false) where
  pub plain_low : x < 2 ^ 31
  plain_low = leb-false (2 ^ 31) x t

  pub plain_signed : signed32 x ≡ pos x
  unfolding signed32
  plain_signed = cond_false (negative32 x) (negsuc (4294967295 - x)) (pos x) t

  pub plain_size : magnitude32 x ≡ x
  unfolding magnitude32
  plain_size = cond_false (negative32 x) (4294967296 - x) x t

  plain_raised : raised x ≡ x + 2 ^ 32
  unfolding raised
  plain_raised = cond_false (negative32 x) x (x + 2 ^ 32) t

  plain : TwosComplement x
  plain = record {
    value = plain_signed ∙ ap pos (sym plain_size) ∙ sym (cond_false (negative32 x) (neg_ℤ (pos (magnitude32 x))) (pos (magnitude32 x)) t);
    size = ap nat_abs plain_signed ∙ sym plain_size;
    sign = ap (λ (z : ℤ). lt_z z (pos 0)) plain_signed ∙ le-ltb x 0 (omega arith) ∙ sym t;
    lifted = ap (λ (z : ℤ). z +ℤ pos (2 ^ 32)) plain_signed ∙ ap pos (sym plain_raised);
  }

-- ---- the upper half

-- a difference that is not negative
difference : (a b c : ℕ) → a ≡ b + c → sub_ℕ a b ≡ pos c
difference a b c e = cond_false (ltb a b) (negsuc (b - suc a)) (pos (a - b)) (le-ltb a b (omega arith)) ∙ ap pos (omega arith)

module _ (x : ℕ) (t : negative32 x ≡ true) where
  pub negative_high : 2 ^ 31 ≤ x
  negative_high = leb-true (2 ^ 31) x t

  pub negative_signed : signed32 x ≡ negsuc (4294967295 - x)
  unfolding signed32
  negative_signed = cond_true (negative32 x) (negsuc (4294967295 - x)) (pos x) t

  pub negative_size : magnitude32 x ≡ 2 ^ 32 - x
  unfolding magnitude32
  negative_size = cond_true (negative32 x) (4294967296 - x) x t

  negative_raised : raised x ≡ x
  unfolding raised
  negative_raised = cond_true (negative32 x) x (x + 2 ^ 32) t

  negative : x < 2 ^ 32 → TwosComplement x
  negative h =
      let k = 4294967295 - x in
      let one_more : magnitude32 x ≡ suc k = omega (arith, negative_size) in
      record {
        value = negative_signed ∙ ap (λ (n : ℕ). neg_ℤ (pos n)) (sym one_more)
            ∙ sym (cond_true (negative32 x) (neg_ℤ (pos (magnitude32 x))) (pos (magnitude32 x)) t);
        size = ap nat_abs negative_signed ∙ sym one_more;
        sign = ap (λ (z : ℤ). lt_z z (pos 0)) negative_signed ∙ sym t;
        lifted = ap (λ (z : ℤ). z +ℤ pos (2 ^ 32)) negative_signed ∙ difference (2 ^ 32) (suc k) x (omega arith) ∙ ap pos (sym negative_raised);
      }

-- ---- both

-- the word as the machine reads it
pub as_signed : (x : ℕ) → x < 2 ^ 32 → cast_signed w32 x ≡ signed32 x
as_signed x h = go (negative32 x) refl
  where
    go : (b : Bool) → negative32 x ≡ b → cast_signed w32 x ≡ signed32 x
    go false t = to_z_pos w32 x (plain_low x t) ∙ sym (plain_signed x t)
    go true t =
        ap (cast_signed w32) (omega (arith, negative_high x t)) ∙ to_z-neg w32 (4294967295 - x) (omega (arith, negative_high x t))
        ∙ sym (negative_signed x t)

pub twos_complement : (x : ℕ) → x < 2 ^ 32 → TwosComplement x
twos_complement x h = go (negative32 x) refl
  where
    go : (b : Bool) → negative32 x ≡ b → TwosComplement x
    go false t = plain x t
    go true t = negative x t h

-- the number that a cast gives, read back from its bits
pub cast_read : (x : ℕ) (z : ℤ) → x < 2 ^ 32 → z ≡ cast_signed w32 x → cast_signed w32 (cast_unsigned w32 z) ≡ signed32 x
cast_read x z h e = ap (λ (y : ℤ). cast_signed w32 (cast_unsigned w32 y)) e ∙ ap (cast_signed w32) (of_z-to_z w32 x h) ∙ as_signed x h

pub sign_read : (x : ℕ) (z : ℤ) {t : Bool} → x < 2 ^ 32 → z ≡ signed32 x → t ≡ is_negative z → t ≡ negative32 x
sign_read x z h e f = f ∙ ap is_negative e ∙ (twos_complement x h).sign

pub size_read : (x : ℕ) (z : ℤ) {n : ℕ} → x < 2 ^ 32 → z ≡ signed32 x → n ≡ nat_abs z → n ≡ magnitude32 x
size_read x z h e f = f ∙ ap nat_abs e ∙ (twos_complement x h).size

pub size_most : (x : ℕ) → x < 2 ^ 32 → magnitude32 x ≤ 2 ^ 31
size_most x h = go (negative32 x) refl
  where
    go : (b : Bool) → negative32 x ≡ b → magnitude32 x ≤ 2 ^ 31
    go false t = omega (arith, plain_size x t, plain_low x t)
    go true t = omega (arith, negative_size x t, negative_high x t)
