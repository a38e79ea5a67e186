-- What a run answered and left, as the definition has it; the length of a call as the code has it. Definitions only.
use Rattle.std.specs.Prelude.{ℕ, zero, suc, List, Option, Some, None, Result, Ok, Err}
use Rattle.words.specs.declared.refusal.Refusal.{Refusal}
use Rattle.words.specs.Refusal.{number_of}
use Rattle.history.specs.Run.{Ran, ran}
use Rattle.history.specs.declared.Report.{Report}

-- a refused run made no call
abbrev pub reported : Result Report Refusal → (surface journal answers : List ℕ) → Ran
reported (Ok r) surface journal answers = ran 0 r.calls r.used surface journal answers
reported (Err refusal) surface journal answers = ran (number_of refusal) 0 0 surface journal answers

-- a length of 0 stands for none
abbrev pub length_found : ℕ → Option ℕ
length_found zero = None
length_found (suc n) = Some (suc n)
