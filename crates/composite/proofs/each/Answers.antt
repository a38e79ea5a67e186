-- Each turn saves the old pixel and writes the new one.
use native.Mathlib.Omega.{arith}
use Rattle.journal.proofs.RowLaws.{row_ends}
use Rattle.composite.proofs.TurnLaws.{rule_turns}
use Rattle.composite.proofs.each.Goals as goal

pub loop-i-preserved : goal.loop-i-preserved
loop-i-preserved g c rule bits paints =
    rule_turns rule c.args.colours.now bits _ _ _ _ _ _ _ _ _ _ _ _ (c.loop-i.invariant rule bits paints) (omega arith)
    (paints _ _ _ _ (omega arith) c.paint.ensures) c.put.ensures

pub returns : goal.returns
returns g c rule bits paints = row_ends _ _ _ _ _ _ _ _ _ _ _ (c.loop-i.invariant rule bits paints) (omega arith)
