-- What a play answers and leaves, whatever it draws. Definitions only.
use Rattle.std.specs.Prelude.{ℕ, ◌+◌, ◌-◌, ◌*◌, List, [], ◌∷◌, ◌++◌, length, ltb}
use Rattle.std.proofs.lemmas.List.Edits.{sets}
use Rattle.words.specs.Status.{given, or_else}
use Rattle.journal.specs.Drawing.{Work, drawn}
use Rattle.journal.specs.Records.{stride, Entry, bytes_of, saved, closing}
use Rattle.memory.specs.Memory.{Memory, memory, Outcome, outcome, settle, memory_status, records}

-- "its count is the number of pixels of its clipped target"
abbrev pub counted : Work → ℕ
counted k = length k.points

-- the surface with the play drawn
abbrev pub drawn_by : (width : ℕ) → Work → List ℕ → List ℕ
drawn_by width k s = drawn width k.paint k.points s

-- "A play appends one record for each pixel and one closing record."
unfoldable pub appended : (width : ℕ) → Work → (surface : List ℕ) → List Entry
appended width k s = saved width k.paint k.points s ++ (closing (counted k) k.kind ∷ [])

-- "Room above the count is written again."
unfoldable pub played : (width : ℕ) → Work → Memory → Memory
played width k m =
    memory (drawn_by width k m.surface) (sets m.journal (m.used * stride) (bytes_of (appended width k m.surface))) (m.used + (counted k + 1))

-- 14: "play: pixels + 1 exceed the free records"
unfoldable pub full_status : Work → Memory → ℕ
full_status k m = given 14 (ltb (records m - m.used) (counted k + 1)) 0

-- 1 and 2, then what the reading of the record says, then 14
abbrev pub play_status : (width height reading : ℕ) → Work → Memory → ℕ
play_status width height reading k m = or_else (memory_status width height m) (or_else reading (full_status k m))

-- "An accepted play answers 0 with that count."
unfoldable pub play_of : (width height reading : ℕ) → Work → Memory → Outcome
play_of width height reading k m = settle (play_status width height reading k m) m (outcome 0 (counted k) (played width k m))
