-- The table's colours stand at the front, and behind them all stays black.
use Rattle.std.proofs.Common.{ℕ, rules, arith}
use Rattle.words.proofs.FillCallLaws.{filled_by_place}
use Rattle.sample.specs.Palette.{entry_colour}
use Rattle.sample.proofs.PaletteLaws.{palette_is, colours}
use Rattle.sample.proofs.palette.read.Goals as goal

pub returns : goal.returns
unfolding entry_colour
returns c =
    let n : ℕ = c.args.n in
    let each = c.by_place.ensures.each in
    let p = filled_by_place (entry_colour c.args.table.now) _ n _ (omega arith) c.by_place.ensures.long (λ k h. let e = each k 0 h in search rules) in
    (palette_is _ n _ p (omega arith), colours _ n _ p (λ i. omega (arith, c.type_inv.table i)))
