-- The later start lies before the earlier end.
use mathlib.Core.Path.{ap₂}
use lib.Dec.{ltb}
use native.Mathlib.Omega.{arith}
use Rattle.region.specs.Axis.{meets}
use Rattle.region.proofs.span.Clip.meets.Goals as goal

pub returns : goal.returns
unfolding meets
returns c = ap₂ ltb (omega arith) (omega arith)
