-- Condition 3: lists of calls, made one after the other on the lent memory, against the history. Definitions, and the claim.
use Rattle.std.specs.Prelude.{◌≡◌, ℕ, ◌^◌, ◌<◌, List, [], ◌∷◌, get_or}
use Rattle.memory.specs.Memory.{Memory, memory, Outcome, memory_status, records}
use Rattle.memory.specs.Undoing.{undo_of}
use Rattle.player.specs.Calls.{play_outcome}
use Rattle.history.specs.History.{Call, call_play, call_undo, Answered, answered, History, history, surface_of, used_of, history_answers, history_after}

-- one call, by the very definitions that the contracts of `play` and `undo` cite
abbrev pub made : (width height : ℕ) → Call → Memory → Outcome
made width height (call_play p) m = play_outcome width height p m
made width height call_undo m = undo_of width height m

-- what the calls answered, and the lent memory after them
unfoldable pub answers : (width height : ℕ) → List Call → Memory → List Answered
answers width height [] m = []
answers width height (k ∷ ks) m =
    answered (made width height k m).status (made width height k m).number ∷ answers width height ks (made width height k m).after

unfoldable pub memory_after : (width height : ℕ) → List Call → Memory → Memory
memory_after width height [] m = m
memory_after width height (k ∷ ks) m = memory_after width height ks (made width height k m).after

-- "each call has answered what the pile answers, the sheet is the pile's sheet, and the count in use is its room"
pub record Agree (width height : ℕ) (ks : List Call) (m : Memory) (q : History) : Type 0 where
  pub answer : answers width height ks m ≡ history_answers width height ks q
  pub surface : (memory_after width height ks m).surface ≡ surface_of width height (history_after width height ks q)
  pub used : (memory_after width height ks m).used ≡ used_of width height (history_after width height ks q)

-- "one 32-bit number a pixel"
abbrev pub Words32 : List ℕ → Type 0
Words32 s = (k : ℕ) → get_or s k 0 < 2 ^ 32

-- "The list starts from any sheet and journal that refusals 1 and 2 let pass, any bytes in the journal, count in use 0." After every
-- list of calls, refused ones included:
abbrev pub Condition3 : Type 0
Condition3 =
    (width height : ℕ) (surface journal : List ℕ) (ks : List Call) → Words32 surface → memory_status width height (memory surface journal 0) ≡ 0
    → Agree width height ks (memory surface journal 0) (history surface (records (memory surface journal 0)) [])
