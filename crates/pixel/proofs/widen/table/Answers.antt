-- The constant is the table, and its rule was computed at every entry.
use Rattle.pixel.proofs.WidenLaws.{table_widens}
use Rattle.pixel.proofs.widen.table.Goals as goal

pub returns : goal.returns
returns c = table_widens
