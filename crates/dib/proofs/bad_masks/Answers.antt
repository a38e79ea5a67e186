-- Each call answers its definition, and the code joins them as the definition does.
use mathlib.Core.Bool.{◌&&◌, ◌||◌}
use Rattle.dib.specs.Header.{has_masks}
use Rattle.dib.specs.HeaderStatus.{bad_masks}
use Rattle.dib.proofs.HeaderLaws.{sound, depth_bounds}
use Rattle.dib.proofs.bad_masks.Goals as goal

pub bad_channels-requires : goal.bad_channels-requires
unfolding bad_masks
bad_channels-requires c = (depth_bounds c.args.h.bits (sound c.args.h c.requires).depth).1

pub returns : goal.returns
unfolding bad_masks
returns c =
    λ t. has_masks c.args.h.compression && (c.bad_channels.ensures t || c.bad_overlaps.ensures t)
