-- What a call answered and left, as an outcome. Definitions only.
use Rattle.std.specs.Prelude.{ℕ, Result, Ok, Err}
use Rattle.words.specs.declared.refusal.Refusal.{Refusal}
use Rattle.words.specs.Refusal.{answer_of}
use Rattle.memory.specs.Memory.{Memory, Outcome, outcome}

-- a call's number (of pixels drawn or restored); "Each returns its number and 0 pixels"
abbrev pub pixels_of : Result ℕ Refusal → ℕ
pixels_of (Ok number) = number
pixels_of (Err refusal) = 0

abbrev pub outcome_of : Result ℕ Refusal → Memory → Outcome
outcome_of r after = outcome (answer_of r) (pixels_of r) after
