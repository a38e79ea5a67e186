-- The call's status and number are stored one behind the other, and the next call stands behind this one.
use mathlib.Core.Path.{sym, ◌∙◌}
use native.Mathlib.Omega.{arith}
use Rattle.history.proofs.CallLaws.{call_inside, length_or_0, stepped}
use Rattle.history.proofs.one.Goals as goal

pub overflow_add-result : goal.overflow_add-result
overflow_add-result c =
    let n = length_or_0 _ _ _ c.call_length.ensures c.unwrap_or.ensures in
    omega (arith, call_inside _ _ _ n (λ z. c.requires.0 (sym n ∙ z)))

pub returns : goal.returns
returns c =
    stepped _ _ _ _ _ _ _ _ _ _ _ _ c.call-answer.ensures c.numbers-status.ensures.0 c.numbers-status.ensures.1
    (length_or_0 _ _ _ c.call_length.ensures c.unwrap_or.ensures)
