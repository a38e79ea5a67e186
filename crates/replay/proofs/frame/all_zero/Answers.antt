-- Each byte passes the test, where all do.
use Rattle.std.proofs.Common.{rules, ◌≡◌, ◌<◌}
use borrow.Author.Tests.{tests}
use Rattle.std.proofs.lemmas.Bool.{MatchBool-at_true}
use Rattle.std.proofs.lemmas.Iterator.{cases_from_all, YieldsList-from_slice}
use Rattle.replay.proofs.frame.all_zero.Goals as goal

pub returns : goal.returns
returns c = λ t k h.
    MatchBool-at_true _ _ t (cases_from_all _ _ _ (λ x. x ≡ 0) (λ x. 0 < x) c.all.ensures.ran
    (YieldsList-from_slice c.args.s.now cc) (λ x q k. search (rules, tests)) (λ x q k. search (rules, tests))) k 0 (search rules) h
