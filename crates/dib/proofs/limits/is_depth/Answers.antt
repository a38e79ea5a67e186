-- The code's expression is the definition's.
use mathlib.Core.Path.{refl}
use Rattle.pixel.specs.Position.{is_depth}
use Rattle.dib.proofs.limits.is_depth.Goals as goal

pub returns : goal.returns
unfolding is_depth
returns c = refl
