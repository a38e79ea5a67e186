-- The call is split off the front, and the bytes behind its data were tested.
use Rattle.std.proofs.Common.{arith, refl, ◌+◌}
use Rattle.replay.proofs.FoundLaws.{found}
use Rattle.replay.proofs.frame.with_data.Goals as goal

pub returns : goal.returns
returns c =
    let split = c.in_ok-call.ensures.cases in
    found _ c.args.s.now _ (c.args.front + 4) (c.args.front + 4 + c.read-count.result) split.0 split.1 split.2 (omega arith)
    (omega (arith, c.next_multiple_of.ensures.lower_bound)) refl (c.all_zero.ensures c.if-not-all_zero.false)
