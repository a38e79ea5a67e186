-- The buffers are new and hold 0, however it is written, and their front is as long as the row.
use Rattle.std.proofs.Common.{arith, List, ℕ, replicate, take}
use mathlib.Core.Path.{subst}
use Rattle.draw.specs.Ready.{Buffers}
use Rattle.draw.proofs.ReadyLaws.{fresh}
use Rattle.draw.proofs.through.Goals as goal

pub rows-requires-clause-buffers : goal.rows-requires-clause-buffers
rows-requires-clause-buffers g c =
    let front : ℕ → List ℕ = λ v. take c.args.p.target.columns.count (replicate g.row.N v) in
    subst (λ v. Buffers c.args.p (front 0) (front 0) (front v) (front 0)) (omega arith) (fresh c.args.p g.row.N c.requires.room)
