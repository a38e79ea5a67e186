-- Each turn fetches a row of source pixels and mask bits and paints it, so that what is drawn and saved leads to all rows drawn and saved.
use mathlib.Core.Path.{◌≡◌, ◌∙◌}
use Prim.Native.Nat.{◌+◌}
use native.Mathlib.Omega.{arith}
use lib.ListN.{length}
use Rattle.journal.proofs.RowLaws.{rows_end}
use Rattle.draw.proofs.DrawLaws.{filled_length, still_blank, columns_inside, mask_columns_inside, rows_more, colours_are, bits_are}
use Rattle.draw.proofs.rows.Goals as goal

pub of_source-requires-clause-source_row : goal.of_source-requires-clause-source_row
of_source-requires-clause-source_row c =
    let ready = c.requires.ready in
    let inside = columns_inside c.args.p ready.good _ _ c.map_columns.ensures.mapped ready.column_numbers in
    record {
      good = ready.good;
      masks = c.source_masks-masks.ensures;
      colours = c.palette-palette.ensures.1;
      shows = c.palette-palette.ensures.0;
      inside = inside;
    }

pub of_mask-requires-clause-mask_row : goal.of_mask-requires-clause-mask_row
of_mask-requires-clause-mask_row c =
    let good = c.requires.ready.good in
    record { good = good; inside = mask_columns_inside c.args.p good _ _ c.map_columns.ensures.mapped }

pub loop-k-preserved : goal.loop-k-preserved
loop-k-preserved c =
    let p = c.args.p in
    let s = c.args.s.now in
    let l = c.loop-k in
    let mapped = c.map_columns.ensures.mapped in
    let columns = c.map_columns.new.source_columns in
    let mask_columns = c.map_columns.new.mask_columns in
    let j = p.target.rows.index + l.k in
    let colours_long = filled_length _ _ _ _ _ c.of_source.ensures ∙ l.invariant.1 in
    let long : length c.of_source.new.out ≡ p.target.columns.count = colours_long ∙ c.requires.buffers.for_colours in (
      rows_more s p l.k c.rule-rule.result c.of_source.new.out c.of_mask.new.out c.rule-rule.ensures
          (colours_are s p columns mask_columns mapped j _ _ l.invariant.3 c.of_source.ensures)
          (bits_are s p columns mask_columns mapped j _ _ l.invariant.4 c.of_mask.ensures)
          _ _ _ _ _ _ l.invariant.0 c.loop-k-test.true long c.row.ensures,
      colours_long,
      filled_length _ _ _ _ _ c.of_mask.ensures ∙ l.invariant.2,
      still_blank _ _ _ _ _ _ c.of_source.ensures l.invariant.3,
      still_blank _ _ _ _ _ _ c.of_mask.ensures l.invariant.4,
    )

pub returns : goal.returns
returns c = rows_end _ _ _ _ _ _ _ _ _ _ _ _ _ c.loop-k.invariant.0 (omega arith)
