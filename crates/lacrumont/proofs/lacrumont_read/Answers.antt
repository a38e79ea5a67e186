-- The reading's numbers in a row; the flag is made a number by std.
use Rattle.std.proofs.Common.{◌≡◌, Bool, true, false, cond, refl}
use mathlib.Core.Path.{◌∙◌}
use mir.Val.{bool_byte}
use Rattle.lacrumont.proofs.NumberLaws.{numbers_are}
use Rattle.lacrumont.proofs.lacrumont_read.Goals as goal

number : (b : Bool) → bool_byte b ≡ cond b 1 0
number true = refl
number false = refl

pub returns : goal.returns
returns c = numbers_are c.read-a.result _ c.from.result c.read-a.ensures.answer (c.from.ensures ∙ number _)
