-- Each turn restores the last record that is left, so that the first of a pixel's records comes last.
use Prim.Native.Nat.{◌<◌}
use lib.ListN.{length}
use native.Mathlib.Omega.{arith}
use Rattle.journal.specs.Drawing.{pixel_index}
use Rattle.journal.proofs.RestoreLaws.{restoring_on, restoring_one, restoring_all}
use Rattle.journal.proofs.restore.Goals as goal

pub offset_bounds-surface-pixel : goal.offset_bounds-surface-pixel
offset_bounds-surface-pixel c =
    let pixel = c.load-pixel.result in
    let on_surface : pixel_index c.args.width pixel.first pixel.second < length c.loop-i.surface = search restoring_on in
    omega (arith, on_surface)

pub bounds-surface-pixel : goal.bounds-surface-pixel
bounds-surface-pixel c = search restoring_on

pub loop-i-preserved : goal.loop-i-preserved
loop-i-preserved c = search restoring_one

pub returns : goal.returns
returns c = search restoring_all
