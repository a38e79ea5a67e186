-- The list is walked by its calls' lengths, and ends where the definition's walk ends.
use mathlib.Core.Path.{◌≡◌}
use Prim.Native.Nat.{◌-◌}
use Rattle.history.specs.Run.{well_formed}
use Rattle.history.proofs.well_formed.Given as goal

abbrev pub invariant-loop : goal.invariant-loop
invariant-loop l = well_formed l.list l.place (l.n - l.counter) ≡ well_formed l.fn.list l.fn.at l.fn.n
