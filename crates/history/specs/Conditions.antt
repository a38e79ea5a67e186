-- The client's three conditions of acceptance, as three claims about every input; their words stand beside each claim. Definitions only.
use Rattle.player.specs.Conditions.{Condition1, Condition2}
use Rattle.history.specs.Lists.{Condition3}

pub record Conditions : Type 0 where
  pub condition1 : Condition1
  pub condition2 : Condition2
  pub condition3 : Condition3
