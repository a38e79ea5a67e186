-- Each call's answer is its definition of what the calls before it answered, and none refuses.
use Rattle.judge.proofs.CheckLaws.{accepted_is}
use Rattle.judge.proofs.check.Goals as goal

pub returns : goal.returns
returns c =
    accepted_is c.args.s.now c.read-kind.ensures.0 c.of-row.ensures.row c.read-f.ensures c.record_of-r.ensures
    c.in_ok-frame.ensures c.in_ok-parts.ensures c.in_ok-later_status.ensures
