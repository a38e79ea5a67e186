-- A mask that is not 0 has a one, so its channel can be read.
use native.Mathlib.Omega.{arith}
use Rattle.sample.proofs.ColourLaws.{width_pos}
use Rattle.sample.proofs.colour.alpha.Goals as goal

pub channel8-requires-clause-channel : goal.channel8-requires-clause-channel
channel8-requires-clause-channel c =
    record { some = width_pos c.args.mask (omega arith) c.ranges.mask.fits; most = c.requires.narrow }
