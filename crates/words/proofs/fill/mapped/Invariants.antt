-- After k turns the first k places hold what f makes of `from` there, and the others are as they were.
use Rattle.std.proofs.Common.{◌≡◌, ◌≤◌, ◌<◌, slice_index_or}
use Rattle.words.proofs.fill.mapped.Given as goal

abbrev pub invariant-loop-k : goal.invariant-loop-k
invariant-loop-k g l = record {
  front : (j : _) (c : _) (d : _) → j < l.k → goal.F-post g l.f (slice_index_or l.from j c) (slice_index_or l.out j d);
  back : (j : _) (d : _) → l.k ≤ j → slice_index_or l.out j d ≡ slice_index_or l.initial.out j d;
}
