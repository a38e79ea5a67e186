-- Each case of the enum is the definition's.
use Rattle.judge.proofs.OperationLaws.{reads_masked}
use Rattle.judge.proofs.operation.reads_source.Goals as goal

pub returns-in-Masked : goal.returns-in-Masked
returns-in-Masked c = reads_masked _ _ _ c.in-Masked.is c.needs_source.ensures c.needs_source-in-Masked.ensures
