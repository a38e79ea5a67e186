-- Each of the three numbers is the definition's.
use native.Mathlib.Omega.{arith}
use mathlib.Core.Path.{◌≡◌}
use Prim.Native.Nat.{ℕ, ◌+◌, ◌-◌, min, max}
use Rattle.words.specs.Bytes.{magnitude32}
use Rattle.region.specs.Axis.{cut_edge, target_start, target_hidden, clipped}
use Rattle.region.proofs.span.Clip.clipped.Goals as goal

pub returns : goal.returns
unfolding clipped
returns c =
    let a = c.args in
    let first : ℕ = target_start a.x a.cx in
    let hidden : ℕ = target_hidden a.x a.cx in
    let low : ℕ = max (cut_edge a.self.low a.self.side) first in
    let at : c.max-at.result ≡ low = omega arith in
    let count : c.saturating_sub-count.result ≡ min (cut_edge a.self.high a.self.side) (first + (magnitude32 a.cx - hidden)) - low = omega arith in
    let index : c.saturating_sub-2.result + c.target_hidden-hidden.result ≡ low - first + hidden = omega arith in
    λ i. record { at = at i; count = count i; index = index i }
