-- Each channel is what its rule gives.
use Rattle.std.proofs.Common.{rules}
use Rattle.pixel.specs.Blend.{blend1, blend_alpha1, alpha, over1}
use Rattle.pixel.proofs.blend.pixel1.Goals as goal

pub returns : goal.returns
unfolding over1
returns c =
    let a = c.args in
    c.channelwise.ensures (λ x y. blend_alpha1 x y a.c) (λ x y. blend1 x (alpha a.s) y a.c) (λ x y r hx hy p. search rules) (λ x y r hx hy p. search rules)
