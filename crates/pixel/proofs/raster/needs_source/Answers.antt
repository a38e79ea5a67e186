-- A byte has 256 values, and the test was computed at each.
use mathlib.Core.Path.{ap}
use mathlib.Core.Bool.{not}
use borrow.Author.Tests.{eq-eqb, ne_eqb}
use Rattle.pixel.proofs.RasterLaws.{needs_low, needs_high}
use Rattle.pixel.proofs.raster.needs_source.Goals as goal

pub returns-then-op : goal.returns-then-op
returns-then-op c = needs_low c.args.op c.ranges.op.fits (ap not (ne_eqb _ _ c.if-op.true))

pub returns-else-op : goal.returns-else-op
returns-else-op c = needs_high c.args.op c.ranges.op.fits (ap not (eq-eqb _ _ c.if-op.false))
