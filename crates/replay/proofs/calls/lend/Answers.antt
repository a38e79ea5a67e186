-- No more is lent than there is.
use Rattle.std.proofs.Common.{arith}
use Rattle.replay.proofs.calls.lend.Goals as goal

pub invariant_of-lent : goal.invariant_of-lent
invariant_of-lent c = record { pixels_within = omega arith; bytes_within = omega arith }
