-- Each turn restores the last record that is left, so that the first of a pixel's records comes last.
use Rattle.journal.proofs.RestoreLaws.{Restoring}
use Rattle.journal.proofs.restore.Given as goal

abbrev pub invariant-loop-i : goal.invariant-loop-i
invariant-loop-i l = Restoring l.width l.journal l.from l.n l.initial.surface l.surface l.i
