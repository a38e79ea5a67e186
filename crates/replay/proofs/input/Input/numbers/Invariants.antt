-- The buffer is filled anew on the way, and stays as long as it was.
use Rattle.replay.specs.Lengths.{SameInput}
use Rattle.replay.proofs.input.Input.numbers.Given as goal

abbrev pub invariant-loop-x : goal.invariant-loop-x
invariant-loop-x g l = SameInput l.initial.self l.self
