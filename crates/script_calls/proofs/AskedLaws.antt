-- What comes back of a part that was lent is as long as the part, so what stands behind it keeps its place; equal arguments ask for equal plays.
use mathlib.Core.Path.{◌≡◌, ap, ◌∙◌}
use mathlib.Core.List.{List, ◌++◌}
use Prim.Native.Nat.{ℕ, ◌≤◌}
use lib.ListN.{length, take, drop}
use lib.Seq.{length-take-le, length_front, take_at, drop_at}
use Rattle.meaning.specs.declared.Terms.{Terms}
use Rattle.meaning.specs.Meaning.{terms_at}
use Rattle.memory.specs.Memory.{Memory}
use Rattle.player.specs.Calls.{play_with, play_outcome}
use Rattle.script_calls.specs.Asked.{Rest, play_asked}

-- the first n elements d of a list were lent, and e came back in their place
module _ (n : ℕ) (l e : List ℕ) (fits : n ≤ length l) (kept : length e ≡ length (take n l)) where
  pub front : take n (e ++ drop n l) ≡ e
  front = take_at e (drop n l) n (kept ∙ length-take-le n l fits)

  pub rest : Rest n l (e ++ drop n l)
  rest = record { long = length_front l e n kept; same = drop_at e (drop n l) n (kept ∙ length-take-le n l fits) }

-- a play, with its terms by what they were read from
pub asked : (width height : ℕ) (m : Memory) (front s : List ℕ) (terms : Terms) → terms ≡ terms_at front 4
    → play_outcome width height (play_with s terms) m ≡ play_outcome width height (play_asked s front) m
asked width height m call s terms e = ap (λ (o : Terms). play_outcome width height (play_with s o) m) e
