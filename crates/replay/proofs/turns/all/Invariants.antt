-- Each call leaves what is lent as long as it was.
use Rattle.replay.specs.Lengths.{SameLent, SameInput, SameOutput}
use Rattle.replay.proofs.turns.all.Given as goal

abbrev pub invariant-loop : goal.invariant-loop
invariant-loop g l = SameLent l.initial.lent l.lent × SameInput l.initial.input l.input × SameOutput l.initial.output l.output
