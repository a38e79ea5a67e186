-- The three conditions hold: each is proved by itself. Assumes nothing.
use Rattle.player.proofs.Conditions.{condition1, condition2}
use Rattle.history.specs.Conditions.{Conditions}
use Rattle.history.proofs.Condition3.{condition3}

pub conditions : Conditions
conditions = record { condition1 = condition1; condition2 = condition2; condition3 = condition3 }
