-- A byte past the end adds nothing.
use Rattle.words.proofs.ByteLaws.{le_edge, le_bounded}
use Rattle.words.proofs.read_edge.Goals as goal

pub returns : goal.returns
returns g c =
    let a = c.args in
    le_bounded g.row.N a.s.now a.at (λ k. (c.type_inv.s k).fits)
    (
    le_edge g.row.N a.at a.s.now c.within-inside.result.now c.requires c.within-inside.ensures
    c.byte.ensures c.byte-2.ensures c.byte-3.ensures c.byte-4.ensures c.from_le_bytes.ensures
    )
