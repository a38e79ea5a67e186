-- Each of the four numbers is what its rule gives of the two pixels' channels.
use mathlib.Core.Path.{◌≡◌, ap₂, ◌∙◌}
use Prim.Native.Nat.{ℕ}
use native.Mathlib.Omega.{arith}
use Rattle.pixel.specs.Blend.{pixel_of, alpha, red, green, blue}
use Rattle.pixel.proofs.blend.channelwise.Goals as goal

pub returns : goal.returns
returns g c = λ f h on_alpha on_colour.
    let s : ℕ = c.args.s in
    let d : ℕ = c.args.d in
    let s0 : c.channels-sa.result.0 ≡ alpha s = λ i. (c.channels-sa.ensures i).0 in
    let s1 : c.channels-sa.result.1 ≡ red s = λ i. (c.channels-sa.ensures i).1 in
    let s2 : c.channels-sa.result.2 ≡ green s = λ i. (c.channels-sa.ensures i).2 in
    let s3 : c.channels-sa.result.3 ≡ blue s = λ i. (c.channels-sa.ensures i).3 in
    let d0 : c.channels-da.result.0 ≡ alpha d = λ i. (c.channels-da.ensures i).0 in
    let d1 : c.channels-da.result.1 ≡ red d = λ i. (c.channels-da.ensures i).1 in
    let d2 : c.channels-da.result.2 ≡ green d = λ i. (c.channels-da.ensures i).2 in
    let d3 : c.channels-da.result.3 ≡ blue d = λ i. (c.channels-da.ensures i).3 in
    let r0 : c.on_alpha-a.result ≡ f (alpha s) (alpha d) =
    on_alpha _ _ _ (omega (arith, s0)) (omega (arith, d0)) c.on_alpha-a.ensures ∙ ap₂ f s0 d0 in
    let r1 : c.on_colour-r.result ≡ h (red s) (red d) =
    on_colour _ _ _ (omega (arith, s1)) (omega (arith, d1)) c.on_colour-r.ensures ∙ ap₂ h s1 d1 in
    let r2 : c.on_colour-g.result ≡ h (green s) (green d) =
    on_colour _ _ _ (omega (arith, s2)) (omega (arith, d2)) c.on_colour-g.ensures ∙ ap₂ h s2 d2 in
    let r3 : c.on_colour-b.result ≡ h (blue s) (blue d) =
    on_colour _ _ _ (omega (arith, s3)) (omega (arith, d3)) c.on_colour-b.ensures ∙ ap₂ h s3 d3 in
    c.join.ensures ∙ (λ i. pixel_of (r0 i) (r1 i) (r2 i) (r3 i))
