-- The four tests are the definition's, one by one.
use mathlib.Core.Bool.{◌||◌}
use Rattle.emr.proofs.shared.between.Goals as goal

pub returns : goal.returns
returns c =
    rw (c.in-Some-Some.is-0, c.in-Some-Some.is-1)
    (λ t. c.share.ensures t || c.share-2.ensures t || c.share-3.ensures t || c.share-4.ensures t)
