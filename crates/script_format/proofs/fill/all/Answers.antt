-- Each place holds the byte that the seed makes of it, so the slice, filled whole, is their table.
use Rattle.std.proofs.Common.{refl, rules}
use Rattle.words.proofs.FillLaws.{filled_all}
use Rattle.words.proofs.FillCallLaws.{filled_whole}
use Rattle.script_format.proofs.fill.all.Goals as goal

pub returns : goal.returns
returns c =
    let p = c.by_place.ensures in
    filled_all _ _ _ _ refl (filled_whole _ c.args.s.now _ p.long (λ k h. let e = p.each k 0 h in search rules))
