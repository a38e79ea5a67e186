-- Masks and channels: a mask that is not 0 has a one and a shift below the word's length, and a channel fits its width. Assumes nothing.
use mathlib.Core.Path.{◌≡◌, refl}
use mathlib.Core.Logic.{◌⊎◌, inl, inr}
use Prim.Native.Nat.{ℕ, zero, suc, ◌/◌, ◌%◌, ◌^◌, ◌≤◌, ◌<◌, suc-le-suc}
use native.Mathlib.Nat.{mod-lt, not-suc-le-zero, pow-suc, zero-lt-suc, eq-zero-or-pos}
use native.Mathlib.Omega.{arith}
use lib.Pow.{pow_pos}
use lib.Count.{ones, ones_in, count_trailing_zeros, under, ones_step}
use Rattle.pixel.specs.Masks.{mask_width, mask_shift, channel_at}

-- a number below 2 ^ k that is not 0 has a one
some_one : (k n : ℕ) → 0 < n → n < 2 ^ k → 1 ≤ ones n
some_one zero n p h = omega arith
some_one (suc k) n p h = go (λ q. some_one k (n / 2) q (omega (arith, pow-suc 2 k))) (eq-zero-or-pos (n / 2))
  where
    go : (0 < n / 2 → 1 ≤ ones (n / 2)) → (n / 2 ≡ 0) ⊎ (0 < n / 2) → 1 ≤ ones n
    go rest (inl e) = omega (arith, ones_step n)
    go rest (inr q) = omega (arith, ones_step n, rest q)

pub width_pos : (m : ℕ) → 0 < m → m < 2 ^ 32 → 1 ≤ mask_width m
width_pos m p h = some_one 32 m p h

-- and fewer than k zeros below that one
trailing_lt : (k n : ℕ) → 0 < n → n < 2 ^ k → count_trailing_zeros k n < k
unfolding count_trailing_zeros
trailing_lt zero n p h = omega arith
trailing_lt (suc k) n p h = go (λ q. trailing_lt k (n / 2) q (omega (arith, pow-suc 2 k))) (n % 2) refl
  where
    go : (0 < n / 2 → count_trailing_zeros k (n / 2) < k) → (d : ℕ) → d ≡ n % 2 → under d (count_trailing_zeros k (n / 2)) < suc k
    go rest zero e = suc-le-suc (rest (omega arith))
    go rest (suc d) e = zero-lt-suc k

pub shift_lt : (m : ℕ) → 1 ≤ mask_width m → m < 2 ^ 32 → mask_shift m < 32
unfolding ones ones_in
shift_lt zero h l = absurd (not-suc-le-zero h)
shift_lt (suc m) h l = trailing_lt 32 (suc m) (zero-lt-suc m) l

pub channel_lt : (w p n : ℕ) → channel_at w p n < 2 ^ w
unfolding channel_at
channel_lt w p n = mod-lt (n / 2 ^ p) (pow_pos w)
