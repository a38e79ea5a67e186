-- As many bytes are passed over as the buffer holds, at most.
use Rattle.replay.proofs.UnreadLaws.{consumed}
use Rattle.replay.proofs.input.Input.consume.Goals as goal

pub returns-clause-unread : goal.returns-clause-unread
returns-clause-unread g c = consumed _ _ _ _ _ c.min.ensures
