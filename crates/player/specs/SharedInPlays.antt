-- Document 02, item 5, of every play: "Any two parts of the present pictures that have a byte in common are now refused. Refusals: 21;
-- document 01's order becomes 1 to 6, 21, 7 onwards."
use Rattle.std.specs.Prelude.{◌≡◌, ℕ}
use Rattle.words.specs.Status.{or_else}
use Rattle.judge.specs.SharedBytes.{SharesBytes, before21}
use Rattle.memory.specs.Memory.{Memory, outcome, memory_status}
use Rattle.player.specs.Calls.{Play, play_outcome}

pub record SharedInPlays : Type 0 where
  -- such a play is refused, whatever of 7 onwards applies: with the first of 1 to 6 that does, else with 21; it counts no pixels and
  -- leaves all as it was
  pub refused : (width height : ℕ) (p : Play) (m : Memory) → SharesBytes p.bytes
      → play_outcome width height p m ≡ outcome (or_else (memory_status width height m) (or_else (before21 p.bytes) 21)) 0 m
  -- no other play is answered 21
  pub only : (width height : ℕ) (p : Play) (m : Memory) → (play_outcome width height p m).status ≡ 21 → SharesBytes p.bytes
