-- The code's expression is the definition's: a one shifted by the bits is their power of two.
use mathlib.Core.Path.{refl}
use Rattle.pixel.proofs.MaskLaws.{channel_is}
use Rattle.pixel.proofs.masks.is_channel.Goals as goal

pub returns : goal.returns
returns c = channel_is c.args.bits c.args.m _ c.from.result c.is_contiguous.result c.requires c.is_contiguous.ensures refl c.from.ensures
