-- The statuses are asked in their order, and each return is the definition's case.
use mathlib.Core.Path.{refl, sym, ap, ◌∙◌}
use Rattle.words.specs.Refusal.{numbered}
use Rattle.words.proofs.RefusalLaws.{number_some, accepts, refuses}
use Rattle.player.proofs.PlayLaws.{play_limits, play_refused, play_accepted}
use Rattle.judge.proofs.AcceptedLaws.{accepted}
use borrow.Author.Rules.{rules}
use Rattle.player.proofs.play.Goals as goal

pub returns-in_err-status : goal.returns-in_err-status
returns-in_err-status c =
    let a = c.args in
    let e = play_limits a.width a.height a.surface.now a.journal.now a.used.now a.s.now a.terms _
    (refuses c.status.ensures c.in_err-status.was) (number_some _) in
    search rules

pub returns-in-Err : goal.returns-in-Err
returns-in-Err c =
    let a = c.args in
    play_refused a.width a.height a.surface.now a.journal.now a.used.now a.s.now a.terms 0
    (accepts c.status.ensures c.in_ok-status.was) refl _ c.check.ensures _ (ap numbered c.in-Err.is)

pub accepted-requires : goal.accepted-requires
accepted-requires c =
    (sym (accepts c.status.ensures c.in_ok-status.was), (accepted _ _ (sym (ap numbered c.in-Ok.is) ∙ c.check.ensures)).1)

pub returns : goal.returns
returns c =
    let a = c.args in
    play_accepted a.width a.height a.surface.now a.journal.now a.used.now a.s.now a.terms 0
    (accepts c.status.ensures c.in_ok-status.was) refl _ c.check.ensures c.in-Ok.rec _
    (ap numbered c.in-Ok.is) c.accepted.ensures
