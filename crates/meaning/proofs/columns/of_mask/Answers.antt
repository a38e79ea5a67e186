-- Each place holds the column that its index reads.
use Rattle.std.proofs.Common.{rules}
use Rattle.words.proofs.FillCallLaws.{filled_whole}
use Rattle.meaning.proofs.columns.of_mask.Goals as goal

pub returns : goal.returns
returns c =
    let p = c.by_place.ensures in
    filled_whole _ c.args.out.now c.by_place.new.out p.long (λ k h. let e = p.each k 0 h in search rules)
