-- A number as text in a buffer: "numbers are decimal, without sign". Definitions only.
use Rattle.std.specs.Prelude.{◌≡◌, List, ℕ, ◌+◌, ◌-◌, ◌≤◌, ◌<◌}
use Rattle.std.proofs.lemmas.List.Edits.{sets}
use Rattle.io.specs.Digits.{last_digits, IsDigitCount}

-- the digits of n stand in d from `at` to `end`, as few as hold n, and else d is d₀
pub record Printed (n at end : ℕ) (d₀ d : List ℕ) : Type 0 where
  pub some : at < end
  pub few : end ≤ at + 20
  pub fewest : IsDigitCount 10 1 n (end - at)
  pub text : d ≡ sets d₀ at (last_digits 10 (end - at) n)
