-- Each call answers its definition, and the code joins them as the definition does.
use mathlib.Core.Bool.{◌||◌}
use Rattle.judge.proofs.geometry.bad_target.Goals as goal

pub returns : goal.returns
returns c = λ t. c.bad_side.ensures t || c.bad_side-2.ensures t || c.far.ensures t || c.far-2.ensures t
