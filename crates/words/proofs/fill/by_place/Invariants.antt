-- After k turns the first k places hold what f makes of them.
use Rattle.std.proofs.Common.{◌<◌, slice_index_or}
use Rattle.words.proofs.fill.by_place.Given as goal

abbrev pub invariant-loop-k : goal.invariant-loop-k
invariant-loop-k g l = (j : _) (d : _) → j < l.k → goal.F-post g l.f j (slice_index_or l.out j d)
