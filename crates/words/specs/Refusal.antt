-- Document 01, "Refusals and their order", with document 02's 21: the number of each refusal. Definitions only.
use Rattle.std.specs.Prelude.{ℕ, ◌≡◌, Result, Ok, Err}
use Rattle.words.specs.declared.refusal.Refusal.{Refusal}
use Rattle.words.specs.declared.refusal.Refusal.TheVariants.{BadSurface, BadJournal, BadLength, UnknownType, BadSize, PartOutside, Unreadable, BadHeader, BadMasks, BitsTooShort, BadOperation, BadGeometry, BadMask, JournalFull, NothingToUndo, BrokenPlay, SharedParts, MalformedList, TooManyAnswers}

-- 1 to 16 and 21 are the papers'; 29 and 30 are those of a run of a list
abbrev pub number_of : Refusal → ℕ
number_of BadSurface = 1
number_of BadJournal = 2
number_of BadLength = 3
number_of UnknownType = 4
number_of BadSize = 5
number_of PartOutside = 6
number_of Unreadable = 7
number_of BadHeader = 8
number_of BadMasks = 9
number_of BitsTooShort = 10
number_of BadOperation = 11
number_of BadGeometry = 12
number_of BadMask = 13
number_of JournalFull = 14
number_of NothingToUndo = 15
number_of BrokenPlay = 16
number_of SharedParts = 21
number_of MalformedList = 29
number_of TooManyAnswers = 30

abbrev pub Numbers : Refusal → ℕ → Type 0
Numbers refusal n = n ≡ number_of refusal

-- the status that a result stands for: 0 is success
abbrev pub answer_of : {A : Type 0} → Result A Refusal → ℕ
answer_of (Ok a) = 0
answer_of (Err refusal) = number_of refusal

-- the result with its number in the refusal's place
abbrev pub numbered : {A : Type 0} → Result A Refusal → Result A ℕ
numbered (Ok a) = Ok a
numbered (Err refusal) = Err (number_of refusal)
