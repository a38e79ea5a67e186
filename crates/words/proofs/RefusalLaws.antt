-- What a result's status says of its case, and that no refusal has the number of success. Assumes nothing.
use mathlib.Core.Path.{◌≡◌, sym, ap, ◌∙◌}
use Prim.Native.Nat.{ℕ}
use native.Mathlib.Omega.{arith}
use Rattle.words.specs.declared.refusal.Refusal.{Refusal}
use Rattle.words.specs.declared.refusal.Refusal.TheVariants.{BadSurface, BadJournal, BadLength, UnknownType, BadSize, PartOutside, Unreadable, BadHeader, BadMasks, BitsTooShort, BadOperation, BadGeometry, BadMask, JournalFull, NothingToUndo, BrokenPlay, SharedParts, MalformedList, TooManyAnswers}
use Rattle.std.specs.Prelude.{Result, Ok, Err}
use Rattle.words.specs.Refusal.{number_of, answer_of}

pub number_some : (refusal : Refusal) → number_of refusal ≡ 0 → ⊥
number_some BadSurface e = absurd (omega arith)
number_some BadJournal e = absurd (omega arith)
number_some BadLength e = absurd (omega arith)
number_some UnknownType e = absurd (omega arith)
number_some BadSize e = absurd (omega arith)
number_some PartOutside e = absurd (omega arith)
number_some Unreadable e = absurd (omega arith)
number_some BadHeader e = absurd (omega arith)
number_some BadMasks e = absurd (omega arith)
number_some BitsTooShort e = absurd (omega arith)
number_some BadOperation e = absurd (omega arith)
number_some BadGeometry e = absurd (omega arith)
number_some BadMask e = absurd (omega arith)
number_some JournalFull e = absurd (omega arith)
number_some NothingToUndo e = absurd (omega arith)
number_some BrokenPlay e = absurd (omega arith)
number_some SharedParts e = absurd (omega arith)
number_some MalformedList e = absurd (omega arith)
number_some TooManyAnswers e = absurd (omega arith)

-- the status of a result that was taken apart
pub accepts : {A : Type 0} {r : Result A Refusal} {a : A} {k : ℕ} → answer_of r ≡ k → r ≡ Ok a → 0 ≡ k
accepts e q = sym (ap answer_of q) ∙ e

pub refuses : {A : Type 0} {r : Result A Refusal} {refusal : Refusal} {k : ℕ} → answer_of r ≡ k → r ≡ Err refusal → number_of refusal ≡ k
refuses e q = sym (ap answer_of q) ∙ e
