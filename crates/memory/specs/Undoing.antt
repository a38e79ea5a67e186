-- What an undo (document 01: a take-back) answers and leaves. Definitions only.
use Rattle.std.specs.Prelude.{ℕ, ◌-◌, Bool, not, ◌||◌, List, eqb, ltb}
use Rattle.words.specs.Status.{given, or_else}
use Rattle.journal.specs.Records.{mark, Entry, entry_at, entries_at}
use Rattle.journal.specs.Restoring.{restored, any_off}
use Rattle.memory.specs.Memory.{Memory, memory, Outcome, outcome, settle, memory_status}

-- the last record in use
abbrev pub last : Memory → Entry
last m = entry_at m.journal (m.used - 1)

-- how many pixel records it names
abbrev pub named : Memory → ℕ
named m = (last m).second

-- those records
abbrev pub top : Memory → List Entry
top m = entries_at m.journal (m.used - 1 - named m) (named m)

-- 16: "last record not a closing one, it names more than stand before it, or one of those lies off the sheet"
unfoldable pub bad_top : (width height : ℕ) → Memory → Bool
bad_top width height m = not (eqb (last m).first mark) || ltb (m.used - 1) (named m) || any_off width height (top m)

-- "restores the pixels from last to first, lowers the count past the closing record, leaves the journal's bytes"
unfoldable pub undone : (width : ℕ) → Memory → Memory
undone width m = memory (restored width (top m) m.surface) m.journal (m.used - 1 - named m)

-- 1 and 2, 15: "count in use is 0", 16
abbrev pub undo_status : (width height : ℕ) → Memory → ℕ
undo_status width height m = or_else (memory_status width height m) (given 15 (eqb m.used 0) (given 16 (bad_top width height m) 0))

-- "answers 0 with the pixels restored"
unfoldable pub undo_of : (width height : ℕ) → Memory → Outcome
undo_of width height m = settle (undo_status width height m) m (outcome 0 (named m) (undone width m))
