-- Each turn makes one call and leaves the rest of the list, so that after the last every answer is the definition's.
use native.Mathlib.Omega.{arith}
use Rattle.history.proofs.LoopLaws.{running_stands, running_turns, running_memory, running_answers}
use Rattle.history.proofs.all.Goals as goal

pub one-at-requires : goal.one-at-requires
one-at-requires c = (search running_stands, omega arith)

pub loop-i-preserved : goal.loop-i-preserved
loop-i-preserved c =
    running_turns _ _ _ _ _ _ _ _ _ _ _ _ _ c.loop-i.invariant (omega arith) _ _ _ _ _ c.one-at.ensures (omega arith) (omega arith) (omega arith)

pub returns-clause-leaves : goal.returns-clause-leaves
returns-clause-leaves c = search running_memory

pub returns-clause-writes : goal.returns-clause-writes
returns-clause-writes c = search running_answers
