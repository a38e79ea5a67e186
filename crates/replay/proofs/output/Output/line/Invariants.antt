-- What waits may be written on the way: the buffer stays as long as it was.
use Rattle.replay.specs.Lengths.{SameOutput}
use Rattle.replay.proofs.output.Output.line.Given as goal

abbrev pub invariant-loop-n : goal.invariant-loop-n
invariant-loop-n g l = SameOutput l.initial.self l.self
