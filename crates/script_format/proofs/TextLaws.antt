-- A number's digits: at most 20, and what `put` leaves of them. Assumes nothing.
use mathlib.Core.Path.{◌≡◌, sym, ap, ◌∙◌, subst}
use mathlib.Core.Logic.{◌⊎◌, inl, inr}
use mathlib.Core.List.{List}
use Prim.Native.Nat.{ℕ, ◌+◌, ◌-◌, ◌≤◌, ◌<◌}
use native.Mathlib.Nat.{eq-zero-or-pos, pow-le-pow_right}
use native.Mathlib.Omega.{arith}
use lib.ListN.{length, take}
use lib.Seq.{sets}
use Rattle.io.specs.Digits.{last_digits, IsDigitCount}
use Rattle.script_format.specs.Text.{Printed}

-- 10^20 is above 2^64
pub few : (n k : ℕ) → n < 18446744073709551616 → IsDigitCount 10 1 n k → k ≤ 20
few n k small f = go (eq-zero-or-pos (k - 20))
  where
    go : (k - 20 ≡ 0) ⊎ (0 < k - 20) → k ≤ 20
    go (inl e) = omega arith
    go (inr more) =
        let one : 1 < k = omega arith in
        let long : 20 ≤ k - 1 = omega arith in
        let ten : 0 < 10 = omega arith in
        omega (arith, f.2 one, pow-le-pow_right ten long)

pub printed : (n at end k : ℕ) (a d₀ d : List ℕ) → n < 18446744073709551616 → k ≡ length (take k a) → IsDigitCount 10 1 n k
    → take k a ≡ last_digits 10 k n → end ≡ at + length (take k a) → d ≡ sets d₀ at (take k a) → Printed n at end d₀ d
printed n at end k a d₀ d small long f text to left =
    record {
      some = omega (arith, f.0);
      few = omega (arith, few n k small f);
      fewest = subst (IsDigitCount 10 1 n) (sym many) f;
      text = left ∙ ap (sets d₀ at) text ∙ ap (λ (m : ℕ). sets d₀ at (last_digits 10 m n)) (sym many);
    }
  where
    many : end - at ≡ k
    many = omega arith
