-- The client's conditions 1 and 2, as claims about what `play` and `undo` answer and leave, for every input: the contracts say that the code's
-- answers are `play_outcome` and `undo_of`, and that every call ends and does nothing undefined. Condition 3 stands in history: Lists.
use Rattle.std.specs.Prelude.{◌≡◌, List, [], ◌∷◌, ◌++◌, map, ℕ, ◌+◌, ◌*◌, ◌≤◌, ◌<◌, length}
use Rattle.words.specs.Bytes.{byte_at}
use Rattle.region.specs.declared.Target.{Target}
use Rattle.region.specs.Target.{Point, points_in}
use Rattle.journal.specs.Records.{stride, Entry, entry, bytes_of, closing}
use Rattle.memory.specs.Memory.{Memory, Outcome, outcome}
use Rattle.memory.specs.Playing.{play_status}
use Rattle.memory.specs.Undoing.{undo_status, undo_of}
use Rattle.judge.specs.Check.{status_of}
use Rattle.meaning.specs.Meaning.{Meaning, meaning_of, target_in}
use Rattle.player.specs.Calls.{Play, work, play_outcome}
use Rattle.player.specs.Pixels.{pixel, Pixels}

-- ---- condition 1

-- "A bad record, sheet or journal is refused with the number the rules give it; the answer then counts no pixels, and sheet, journal and
-- record count stand as before the call."
pub record Settled (rules : ℕ) (m : Memory) (o : Outcome) : Type 0 where
  pub number_given : o.status ≡ rules
  pub refused : (o.status ≡ 0 → ⊥) → o ≡ outcome rules 0 m

pub record Condition1 : Type 0 where
  pub of_play : (width height : ℕ) (p : Play) (m : Memory)
      → Settled (play_status width height (status_of p.bytes) (work width height p) m) m (play_outcome width height p m)
  pub of_undo : (width height : ℕ) (m : Memory) → Settled (undo_status width height m) m (undo_of width height m)

-- ---- condition 2

-- the journal `after`: these records from record `used` on, and every other byte as in `before`
pub record Appended (before : List ℕ) (used : ℕ) (entries : List Entry) (after : List ℕ) : Type 0 where
  pub long : length after ≡ length before
  pub below : (i : ℕ) → i < used * stride → byte_at after i ≡ byte_at before i
  pub records : (i : ℕ) → i < length entries * stride → byte_at after (used * stride + i) ≡ byte_at (bytes_of entries) i
  pub above : (i : ℕ) → (used + length entries) * stride ≤ i → byte_at after i ≡ byte_at before i

-- a record for each pixel of the clipped target, row by row, with its OLD pixel, and the closing record
abbrev pub records_of : (width : ℕ) (surface : List ℕ) → Target → (kind : ℕ) → List Entry
records_of width s t kind =
    map (λ (q : Point). entry q.x q.y (pixel width s q.x q.y)) (points_in t) ++ (closing (t.rows.count * t.columns.count) kind ∷ [])

-- "An accepted play gives each pixel of the clipped target the number the published equations or raster operation define, rounded once to
-- nearest and cut to 255, changes no other, and answers how many there were." k is what the record means, t its clipped target;
-- that the cut is true of all four channels of a blend is CutInPlays.antt
pub record Played (width height : ℕ) (p : Play) (m : Memory) (k : Meaning) (t : Target) (o : Outcome) : Type 0 where
  pub long : length o.after.surface ≡ length m.surface
  pub pixels : Pixels width height p m.surface o.after.surface k t
  pub count : o.number ≡ t.rows.count * t.columns.count
  pub journal : Appended m.journal m.used (records_of width m.surface t k.kind) o.after.journal
  pub used : o.after.used ≡ m.used + (o.number + 1)

pub record Judged (width height : ℕ) (p : Play) (m : Memory) (o : Outcome) : Type 0 where
  -- "A record is accepted exactly when the published EMF and DIB layouts and the stated limits hold, as the refusals of document 01 put
  -- them.": the status is the first number that applies, and 0 where none does
  pub exact : o.status ≡ play_status width height (status_of p.bytes) (work width height p) m
  pub none_counted : (o.status ≡ 0 → ⊥) → o.number ≡ 0
  pub as_before : (o.status ≡ 0 → ⊥) → o.after ≡ m
  pub accepted : o.status ≡ 0 → Played width height p m (meaning_of p.bytes) (target_in width height (meaning_of p.bytes) p.terms.clip) o

abbrev pub Condition2 : Type 0
Condition2 = (width height : ℕ) (p : Play) (m : Memory) → Judged width height p m (play_outcome width height p m)
