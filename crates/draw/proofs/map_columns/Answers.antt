-- A good record's source lies in its limits, and its mask has a column.
use native.Mathlib.Omega.{arith}
use Rattle.meaning.proofs.FitLaws.{extents, source_fits}
use Rattle.draw.proofs.DrawLaws.{mask_wide}
use Rattle.draw.proofs.map_columns.Goals as goal

pub of_source-requires-clause-in_limits : goal.of_source-requires-clause-in_limits
of_source-requires-clause-in_limits c =
    let rec = c.args.p.record in
    let good = c.requires.record.0 in
    let fits = source_fits rec good c.in-Some.source c.in-Some.is in
    (fits.cx.0, fits.columns.0, fits.cx.1, (extents rec good).columns.1)

pub of_mask-requires : goal.of_mask-requires
of_mask-requires c =
    let rec = c.args.p.record in
    let good = c.requires.record.0 in
    let target = extents rec good in
    (omega (arith, c.requires.record.1, target.columns.1, c.requires.as_many.1), mask_wide rec good c.in-Some-mask.mask c.in-Some-mask.is)
