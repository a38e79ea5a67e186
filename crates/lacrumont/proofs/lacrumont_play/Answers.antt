-- The player's answer as two numbers is the outcome that is asked for.
use mathlib.Core.Path.{◌∙◌}
use Rattle.memory.specs.Memory.{memory, outcome}
use Rattle.lacrumont.proofs.lacrumont_play.Goals as goal

pub returns : goal.returns
returns c =
    let after = memory c.play-answer.new.surface c.play-answer.new.journal c.play-answer.new.used in
    (λ t. outcome (c.numbers-status.ensures.0 t) (c.numbers-status.ensures.1 t) after) ∙ c.play-answer.ensures
