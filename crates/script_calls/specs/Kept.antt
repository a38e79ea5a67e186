-- What no call changes of what is lent. Definitions only.
use Rattle.std.specs.Prelude.{◌≡◌}
use Rattle.script_calls.specs.declared.Lent.{Lent}

-- the same surface and journal still, lent as before
pub record SameLoan (before after : Lent) : Type 0 where
  pub surface : after.surface.ghost_name ≡ before.surface.ghost_name
  pub journal : after.journal.ghost_name ≡ before.journal.ghost_name
  pub width : after.loan.width ≡ before.loan.width
  pub height : after.loan.height ≡ before.loan.height
  pub pixels : after.loan.pixels ≡ before.loan.pixels
  pub bytes : after.loan.bytes ≡ before.loan.bytes
