-- The palette by a reading's numbers is the palette of the picture.
use mathlib.Core.Path.{◌∙◌}
use Rattle.lacrumont.proofs.lacrumont_palette.Goals as goal

pub returns : goal.returns
returns c = c.palette.ensures ∙ c.read-a.ensures.palette
