-- The call answers its definition, and the test is the definition's.
use lib.Dec.{ltb}
use Rattle.judge.proofs.geometry.far.Goals as goal

pub returns : goal.returns
returns c = λ t. ltb 1000000 (c.magnitude.ensures t)
