-- Each turn fetches a row of source pixels and mask bits and paints it, so that what is drawn and saved leads to all rows drawn and saved.
use mathlib.Core.Path.{◌≡◌}
use lib.ListN.{length}
use Rattle.draw.specs.Ready.{Blank}
use Rattle.draw.proofs.DrawLaws.{PlanRows}
use Rattle.draw.proofs.rows.Given as goal

abbrev pub invariant-loop-k : goal.invariant-loop-k
invariant-loop-k l =
    PlanRows l.s l.p l.initial.surface l.initial.journal l.surface l.journal l.k × (length l.colours ≡ length l.initial.colours) × (length l.bits ≡ length l.initial.bits)
    × Blank l.p.record.source l.p.target.columns.count l.colours × Blank l.p.record.mask l.p.target.columns.count l.bits
