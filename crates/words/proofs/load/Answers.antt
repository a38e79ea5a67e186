-- Behind the N bytes stand zeros.
use native.Mathlib.Omega.{arith}
use Rattle.words.proofs.ByteLaws.{le_padded, le_bounded}
use Rattle.words.proofs.load.Goals as goal

pub returns : goal.returns
returns g c =
    let a = c.args in
    le_bounded g.row.N a.s.now a.at (λ k. (c.type_inv.s k).fits)
    (le_padded g.row.N _ _ a.at a.s.now _ c.requires.0 (omega arith) c.copy_from_slice.ensures.after c.from_le_bytes.ensures)
