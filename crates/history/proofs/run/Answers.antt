-- A list that is well formed is run call by call; else nothing is touched.
use native.Mathlib.Omega.{arith}
use borrow.Author.Rules.{rules}
use Rattle.words.proofs.RefusalLaws.{number_some, accepts, refuses}
use Rattle.history.specs.Lists.{Words32}
use Rattle.history.proofs.RunLaws.{run_limits, run_malformed, run_full, run_done}
use Rattle.history.proofs.run.Goals as goal

pub returns-in_err-status : goal.returns-in_err-status
returns-in_err-status c =
    let a = c.args in
    let e = run_limits a.width a.height a.surface.now a.journal.now a.list.now a.answers.now _ (refuses c.status.ensures c.in_err-status.was)
    (number_some _) in
    search rules

pub returns-then-not-well_formed : goal.returns-then-not-well_formed
returns-then-not-well_formed c =
    let e = accepts c.status.ensures c.in_ok-status.was in
    search run_malformed

pub returns-then-answers-calls : goal.returns-then-answers-calls
returns-then-answers-calls c =
    let e = accepts c.status.ensures c.in_ok-status.was in
    search run_full

pub returns : goal.returns
returns c =
    let e = accepts c.status.ensures c.in_ok-status.was in
    let p : Words32 c.args.surface.now = λ k. omega (arith, c.slice_known-1.given k) in
    search (run_done, p)
