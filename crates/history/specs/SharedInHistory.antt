-- Document 02, item 5, of the history: its "refusal ordered from 3 to 13" has 21 in its place, behind 3 to 6 and before 7 onwards.
use Rattle.std.specs.Prelude.{◌≡◌, ℕ}
use Rattle.words.specs.Status.{or_else}
use Rattle.judge.specs.SharedBytes.{SharesBytes, before21}
use Rattle.player.specs.Calls.{Play}
use Rattle.history.specs.History.{call_play, History, turn, turn_of}

pub record SharedInHistory : Type 0 where
  -- a play whose record has two parts with a byte in common: the first of 3 to 6 that applies, else 21; 0 pixels; the history stays
  pub refused : (width height : ℕ) (p : Play) (q : History) → SharesBytes p.bytes
      → turn_of width height (call_play p) q ≡ turn (or_else (before21 p.bytes) 21) 0 q
  -- no other play is answered 21
  pub only : (width height : ℕ) (p : Play) (q : History) → (turn_of width height (call_play p) q).answer.status ≡ 21 → SharesBytes p.bytes
