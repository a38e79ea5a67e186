-- Each turn tests one record, and what is left decides as all did.
use Rattle.journal.proofs.RestoreLaws.{tested_off, tested_one, tested_all}
use Rattle.journal.proofs.any_off.Goals as goal

pub returns-then-width-pixel : goal.returns-then-width-pixel
returns-then-width-pixel c = search tested_off

pub loop-i-preserved : goal.loop-i-preserved
loop-i-preserved c = search tested_one

pub returns : goal.returns
returns c = search tested_all
