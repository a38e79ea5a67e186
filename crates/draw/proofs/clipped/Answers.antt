-- A target without columns draws nothing; another lies on the surface, and its buffers are long enough by the test.
use native.Mathlib.Omega.{arith}
use Rattle.draw.proofs.ReadyLaws.{none_drawn, none_saved}
use Rattle.draw.proofs.clipped.Goals as goal

pub returns-then-p-eq0 : goal.returns-then-p-eq0
returns-then-p-eq0 c =
    let a = c.args in
    let t = a.p.target in
    (none_drawn _ _ t c.if-p-eq0.true _, none_saved _ _ t c.if-p-eq0.true _ _ _)

pub through-requires-clause-room : goal.through-requires-clause-room
through-requires-clause-room c = omega arith
