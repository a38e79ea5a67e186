-- A row that is counted from the top lies in the bits part, which holds all rows.
use mathlib.Core.Path.{◌∙◌}
use Rattle.sample.specs.Stored.{stored_row, row_bytes}
use Rattle.picture.proofs.PictureRowLaws.{row_inside}
use Rattle.picture.proofs.row.Goals as goal

pub row_bytes-requires : goal.row_bytes-requires
row_bytes-requires c = search row_inside

pub returns : goal.returns
returns c =
    let row = c.row_at-k.ensures.0 ∙ (λ t. stored_row (c.is_top_down.ensures t) (c.magnitude.ensures t) c.args.row) in
    c.row_bytes.ensures ∙ (λ t. row_bytes (c.bits_part-bytes.ensures t) (c.row_length-long.ensures t) (row t))
