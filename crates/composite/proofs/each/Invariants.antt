-- Each turn saves the old pixel and writes the new one.
use Prim.Native.Nat.{ℕ}
use lib.ListN.{length}
use mathlib.Core.List.{List}
use Rattle.composite.specs.declared.Rule.{Rule}
use Rattle.composite.specs.Paints.{row_paint, Paints}
use Rattle.journal.proofs.RowLaws.{Row}
use Rattle.composite.proofs.each.Given as goal

abbrev pub invariant-loop-i : goal.invariant-loop-i
invariant-loop-i g l =
    (rule : Rule) (bits : List ℕ) → Paints (goal.F-post g l.paint) rule (length l.colours) bits
    → Row l.width (row_paint rule l.colours bits l.p.x) l.p.at l.p.x (length l.colours) l.p.y l.initial.surface l.initial.journal l.surface l.journal l.i
