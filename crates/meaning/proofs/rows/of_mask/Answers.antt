-- A row that is read lies in the mask, and its bits are the definition's; without a mask nothing is written.
use Rattle.std.proofs.Common.{rules, arith}
use Rattle.std.proofs.lemmas.Grind.{get_or_default_zero}
use Rattle.words.proofs.FillCallLaws.{filled_mapped}
use Rattle.dib.proofs.HeaderLaws.{sound}
use Rattle.meaning.proofs.FilledRowLaws.{fields_ok, mask_filled, line_reaches, bits_reach, mask_row_in}
use Rattle.meaning.proofs.rows.of_mask.Goals as goal

pub mask_column-row-requires : goal.mask_column-row-requires
mask_column-row-requires c =
    let p = c.in-Some.p in
    let fields = fields_ok p (c.requires.mask_row.good.mask p c.in-Some.is) in
    omega (arith, (sound p.header fields).rows.0, c.magnitude-rows.ensures)

pub row-line-requires : goal.row-line-requires
row-line-requires c =
    let p = c.in-Some.p in
    let fit = c.requires.mask_row.good.mask p c.in-Some.is in
    (fit, mask_row_in p.y c.args.j p.header _ _ (fields_ok p fit) c.magnitude-rows.ensures c.mask_column-row.ensures)

pub mapped-requires-clause-callable : goal.mapped-requires-clause-callable
mapped-requires-clause-callable c =
    let p = c.in-Some.p in
    let columns = c.args.columns.now in
    let fit = c.requires.mask_row.good.mask p c.in-Some.is in
    let fields = fields_ok p fit in
    let row = mask_row_in p.y c.args.j p.header _ _ fields c.magnitude-rows.ensures c.mask_column-row.ensures in
    let reach = line_reaches c.args.s.now p _ _ columns fit row c.row-line.ensures (c.requires.mask_row.inside p c.in-Some.is) in
    λ k d h.
    let inside = bits_reach p.header c.row-line.result.now columns fields reach k h in
    let same = get_or_default_zero columns k d h in
    search (rules, same)

pub returns-in-Some : goal.returns-in-Some
returns-in-Some c =
    let there = c.in-Some.is in
    let p = c.mapped.ensures in
    let bits = filled_mapped _ c.args.out.now c.mapped.new.out _ p.long p.back (λ k h. let e = p.front k 0 0 h in search rules) in
    mask_filled c.args.s.now c.args.r c.in-Some.p _ c.args.columns.now c.args.j _ c.row-line.ensures _ there c.magnitude-rows.ensures
    c.mask_column-row.ensures _ _ bits
