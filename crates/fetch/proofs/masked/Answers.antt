-- Each place holds what the masks make of its column's number.
use mathlib.Core.Path.{◌∙◌}
use Rattle.words.proofs.FillCallLaws.{filled_mapped}
use Rattle.fetch.proofs.FetchLaws.{whole_shown}
use Rattle.fetch.proofs.masked.Goals as goal

pub returns : goal.returns
returns g c =
    let p = c.mapped.ensures in
    filled_mapped _ _ _ _ p.long p.back (λ k h. p.front k 0 0 h ∙ whole_shown _ _ _ _ _ c.requires.whole)
