-- Each turn tests one record, and what is left decides as all did.
use Rattle.journal.proofs.RestoreLaws.{Tested}
use Rattle.journal.proofs.any_off.Given as goal

abbrev pub invariant-loop-i : goal.invariant-loop-i
invariant-loop-i l = Tested l.width l.height l.journal l.from l.n l.i
