-- Without byte data the call ends behind its arguments.
use Rattle.std.proofs.Common.{refl}
use Rattle.replay.proofs.FoundLaws.{found_bare}
use Rattle.replay.proofs.frame.first.Goals as goal

pub returns : goal.returns
returns c = let split = c.in_ok-call.ensures.cases in found_bare _ c.args.s.now c.before_data-front.result split.0 split.1 split.2 refl
