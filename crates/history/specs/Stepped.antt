-- One call of a run, for the contracts of the functions that make it. Definitions only.
use Rattle.std.specs.Prelude.{◌≡◌, ℕ, ◌+◌, List, [], ◌∷◌}
use Rattle.std.proofs.lemmas.List.Edits.{sets}
use Rattle.memory.specs.Memory.{Memory}
use Rattle.history.specs.Lists.{made}
use Rattle.history.specs.Run.{call_at, call_length}

-- the call at a place of the list was made on m: its two numbers stand at place k of the answers, and next is the place behind it
pub record Stepped (width height : ℕ) (list : List ℕ) (at : ℕ) (m after : Memory) (k : ℕ) (answers₀ answers : List ℕ) (next : ℕ) : Type 0 where
  pub after_is : after ≡ (made width height (call_at list at) m).after
  pub answers_are : answers ≡ sets answers₀ k ((made width height (call_at list at) m).status ∷ (made width height (call_at list at) m).number ∷ [])
  pub next_is : next ≡ at + call_length list at
