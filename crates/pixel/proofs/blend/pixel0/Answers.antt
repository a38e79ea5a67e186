-- Each channel is what its rule gives of the two pixels' own.
use Rattle.std.proofs.Common.{rules, ◌∙◌}
use mathlib.Core.Path.{ap₂}
use native.Mathlib.Omega.{arith}
use Rattle.pixel.specs.Blend.{blend0, over0}
use Rattle.pixel.proofs.blend.pixel0.Goals as goal

pub returns : goal.returns
unfolding over0
returns c =
    let k = c.args.c in
    c.channelwise.ensures (λ x y. blend0 x y k) (λ x y. blend0 x y k) (λ x y r hx hy p. search rules) (λ x y r hx hy p. search rules)
    ∙ ap₂ (λ s d. over0 s d k) (omega arith) (omega arith)
