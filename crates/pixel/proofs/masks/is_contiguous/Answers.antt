-- Width and shift give the only run of ones, and 64 bits hold it.
use mathlib.Core.Path.{ap₂}
use lib.Dec.{eqb}
use lib.Count.{ones-le, trailing_le}
use Rattle.pixel.specs.Masks.{mask_width, mask_shift, contiguous}
use Rattle.pixel.proofs.MaskLaws.{in_code}
use Rattle.pixel.proofs.masks.is_contiguous.Goals as goal

pub returns : goal.returns
unfolding contiguous
returns c =
    let m = c.args.m in
    ap₂ eqb c.from.ensures (in_code (mask_width m) (mask_shift m) (ones-le 32 m c.ranges.m.fits) (trailing_le 32 m))
