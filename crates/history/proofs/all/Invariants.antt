-- Each turn makes one call and leaves the rest of the list, so that after the last every answer is the definition's.
use Rattle.history.proofs.LoopLaws.{Running}
use Rattle.history.proofs.all.Given as goal

abbrev pub invariant-loop-i : goal.invariant-loop-i
invariant-loop-i l =
    Running l.width l.height l.list l.n l.initial.surface l.initial.journal l.initial.answers l.surface l.journal l.answers l.used l.at l.i
