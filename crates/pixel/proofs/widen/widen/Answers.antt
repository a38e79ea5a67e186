-- The lookup is at the channel's place in the table, where the table's rule holds.
use native.Mathlib.Omega.{arith}
use mathlib.Core.Path.{ap, ◌∙◌}
use Prim.Native.Nat.{ℕ}
use lib.ListN.{get_or}
use Rattle.pixel.specs.Widen.{Widens}
use Rattle.pixel.proofs.WidenLaws.{place}
use Rattle.pixel.proofs.widen.widen.Goals as goal

pub overflow_sub-result : goal.overflow_sub-result
overflow_sub-result c = omega (arith, place c.args.w c.args.v c.requires.0 c.requires.1 c.requires.2)

pub returns : goal.returns
unfolding Widens
returns c =
    ap (λ (n : ℕ). get_or c.args.t.now n 0) (place c.args.w c.args.v c.requires.0 c.requires.1 c.requires.2).0
    ∙ c.requires.3 c.args.w c.args.v c.requires.0 c.requires.1 c.requires.2
