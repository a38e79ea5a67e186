-- An array built at one value is that value at every place.
use Rattle.sample.proofs.PaletteLaws.{black_colours}
use mathlib.Core.Path.{refl}
use Rattle.picture.proofs.black.Goals as goal

pub returns : goal.returns
returns c = (refl, black_colours 256)
