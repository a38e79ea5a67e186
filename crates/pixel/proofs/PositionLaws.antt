-- Rows, columns and remainders: their bounds. Assumes nothing.
use mathlib.Core.Path.{◌≡◌, refl, sym, subst}
use mathlib.Core.Bool.{Bool, true, false, ◌||◌}
use mathlib.Core.Logic.{◌⊎◌, inl, inr, ⊎_elim}
use Prim.Native.Nat.{ℕ, ◌+◌, ◌*◌, ◌/◌, ◌≤◌, ◌<◌}
use native.Mathlib.Nat.{mod-lt, div-add-mod', mul-le-mul_right, div-lt_iff_lt-mul}
use native.Mathlib.Omega.{arith}
use lib.Dec.{eqb}
use lib.IntN.{ℤ, pos, negsuc}
use borrow.Author.Tests.{eqb-true}
use Rattle.pixel.specs.Position.{is_depth, remainder}

-- ---- the bits of a pixel

-- by cases on a depth
pub on_depth {ℓ} : (P : ℕ → Type ℓ) → P 1 → P 4 → P 8 → P 16 → P 24 → P 32 → (b : ℕ) → is_depth b ≡ true → P b
unfolding is_depth
on_depth P p1 p4 p8 p16 p24 p32 b h =
    one 32 _ p32 (one 24 _ p24 (one 16 _ p16 (one 8 _ p8 (one 4 _ p4 (λ g. subst P (sym (eqb-true b 1 g)) p1))))) h
  where
    split : (x y : Bool) → (x || y) ≡ true → (x ≡ true) ⊎ (y ≡ true)
    split true y e = inl refl
    split false y e = inr e

    one : (n : ℕ) (rest : Bool) → P n → (rest ≡ true → P b) → (rest || eqb b n) ≡ true → P b
    one n rest p q e = ⊎_elim q (λ g. subst P (sym (eqb-true b n g)) p) (split rest (eqb b n) e)

-- ---- rows and columns

-- the column read lies in the source
pub column_lt : {i n m : ℕ} → i < m → 1 ≤ n → i * n / m < n
column_lt {i} {n} {m} h l = let p : 0 < m = omega arith in (div-lt_iff_lt-mul p).1 (omega (arith, mul-le-mul_right n h))

-- ---- the least non-negative remainder

pub remainder_lt : (z : ℤ) (w : ℕ) → 1 ≤ w → remainder z w < w
unfolding remainder
remainder_lt (pos a) w h = mod-lt a h
remainder_lt (negsuc a) w h = omega arith

-- it differs from the number by a multiple of w: a = q·w + r, and -(a + 1) + (q + 1)·w = r
pub remainder_pos : (a w : ℕ) → a / w * w + remainder (pos a) w ≡ a
unfolding remainder
remainder_pos a w = div-add-mod' a w

pub remainder_neg : (a w : ℕ) → 1 ≤ w → remainder (negsuc a) w + (a + 1) ≡ a / w * w + w
unfolding remainder
remainder_neg a w h = omega (arith, div-add-mod' a w, mod-lt a h)
