-- A mask with a one has a shift below 32, and its channel is below 2 ^ its width, so the table has a place for it.
use native.Mathlib.Omega.{arith}
use Prim.Native.Nat.{◌^◌, ◌<◌}
use Rattle.sample.specs.Colour.{channel8}
use Rattle.sample.proofs.ColourLaws.{shift_lt, channel_lt}
use Rattle.sample.proofs.colour.channel8.Goals as goal

pub channel-v-requires : goal.channel-v-requires
channel-v-requires c = omega (arith, shift_lt c.args.mask c.requires.channel.some c.ranges.mask.fits)

pub widen-requires : goal.widen-requires
widen-requires c =
    let w = c.width-w.result in
    let v : c.channel-v.result < 2 ^ w = rw c.channel-v.ensures (channel_lt w c.shift.result c.args.n) in
    (omega arith, omega arith, v, c.requires.widens)

pub returns : goal.returns
unfolding channel8
returns c = cc
