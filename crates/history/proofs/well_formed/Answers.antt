-- The list is walked by its calls' lengths, and ends where the definition's walk ends.
use mathlib.Core.Path.{◌≡◌, refl, ap, sym, ◌∙◌}
use Prim.Native.Nat.{◌+◌, ◌-◌}
use native.Mathlib.Omega.{arith}
use Rattle.history.specs.Run.{well_formed}
use Rattle.history.proofs.CallLaws.{none_found, some_found, call_inside}
use Rattle.history.proofs.LoopLaws.{formed_end, formed_not, formed_more}
use Rattle.history.proofs.well_formed.Goals as goal

pub returns-in_default : goal.returns-in_default
returns-in_default c =
    formed_not _ _ _ _ c.loop.invariant _ (omega arith) refl (none_found _ (sym c.call_length.ensures ∙ c.in_default.is))

pub overflow_add-place : goal.overflow_add-place
overflow_add-place c =
    let found = some_found _ _ (sym c.call_length.ensures ∙ c.in-Some.is) in
    omega (arith, call_inside _ _ _ refl found.1, found.0)

pub loop-preserved : goal.loop-preserved
loop-preserved c =
    let found = some_found _ _ (sym c.call_length.ensures ∙ c.in-Some.is) in
    let next : c.args.n - (c.loop.counter + 1) ≡ c.args.n - c.loop.counter - 1 = omega arith in
    ap (well_formed c.args.list.now (c.loop.place + c.in-Some.length)) next
    ∙ formed_more _ _ _ _ c.loop.invariant _ (omega arith) found.0 (λ z. found.1 (sym found.0 ∙ z))

pub returns : goal.returns
returns c = formed_end _ _ _ _ c.loop.invariant (omega arith)
