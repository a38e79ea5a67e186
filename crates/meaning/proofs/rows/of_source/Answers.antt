-- A row that is read lies in the picture, and its pixels are the definition's; without a source nothing is written.
use Rattle.meaning.proofs.FitLaws.{source_fits, row_inside}
use Rattle.meaning.proofs.FilledRowLaws.{source_filled, line_reaches, as_readable}
use Rattle.meaning.proofs.rows.of_source.Goals as goal

pub source_column-row-requires-clause-in_limits : goal.source_column-row-requires-clause-in_limits
source_column-row-requires-clause-in_limits c =
    let fits = source_fits c.args.r c.requires.source_row.good c.in-Some.p c.in-Some.is in
    (fits.lines.0, fits.cy.1)

pub row-line-requires : goal.row-line-requires
row-line-requires c =
    let p = c.in-Some.p in
    let good = c.requires.source_row.good in
    (good.source p c.in-Some.is, row_inside c.args.r good p c.in-Some.is c.args.j _ c.requires.in_rows.0 c.source_column-row.ensures)

pub row-requires : goal.row-requires
row-requires c =
    let p = c.in-Some.p in
    let there = c.in-Some.is in
    let asked = c.requires.source_row in
    let row = row_inside c.args.r asked.good p there c.args.j _ c.requires.in_rows.0 c.source_column-row.ensures in
    let fit = asked.good.source p there in
    let reach = line_reaches c.args.s.now p _ _ c.args.columns.now fit row c.row-line.ensures (asked.inside p there) in
    let sound = as_readable p c.args.m _ fit (asked.masks p there) in
    record { readable = sound; in_row = record { long = c.requires.in_rows.1; reach = reach }; colours = asked.colours }

pub returns-in-Some : goal.returns-in-Some
returns-in-Some c =
    let p = c.in-Some.p in
    let there = c.in-Some.is in
    let asked = c.requires.source_row in
    source_filled c.args.s.now c.args.r p _ c.args.columns.now c.args.j _ c.row-line.ensures c.args.m _ there (asked.masks p there) asked.shows
    c.source_column-row.ensures _ _ c.row.ensures
