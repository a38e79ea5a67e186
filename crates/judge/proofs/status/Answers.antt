-- The number of the check's answer is the status.
use mathlib.Core.Path.{◌∙◌}
use Rattle.judge.proofs.CheckLaws.{answered}
use Rattle.judge.proofs.status.Goals as goal

pub returns : goal.returns
returns c =
    let a = answered c.args.s.now _ c.check.ensures in
    (c.status.ensures ∙ a.0, c.status.ensures ∙ a.1)
