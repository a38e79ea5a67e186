-- The three tests are the definition's, one by one.
use mathlib.Core.Bool.{◌||◌}
use Rattle.emr.proofs.status.unreadable.Goals as goal

pub returns : goal.returns
returns c = λ t. c.bad_transform.ensures t || c.bad_usage.ensures t || c.bad_usage-2.ensures t
