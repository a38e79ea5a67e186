-- Each call answers its definition, and the code joins them as the definition does.
use Rattle.std.proofs.Common.{◌+◌, ◌*◌, ◌||◌, nat_lt}
use Rattle.dib.specs.HeaderStatus.{bad_header}
use Rattle.dib.proofs.bad_header.Goals as goal

pub returns : goal.returns
unfolding bad_header
returns c =
    λ t. c.bad_fields.ensures t || nat_lt c.args.len (c.table_start.ensures.0 t + 4 * c.table_entries.ensures.0 t)
