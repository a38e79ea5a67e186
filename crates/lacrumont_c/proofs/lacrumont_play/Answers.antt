-- The library's function answers what is asked for.
use Rattle.lacrumont_c.proofs.lacrumont_play.Goals as goal

pub returns : goal.returns
returns c = c.lacrumont_play.ensures
