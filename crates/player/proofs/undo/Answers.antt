-- Every test of the top play is made before a pixel is restored, and each return is the definition's case.
use mathlib.Core.Path.{sym, ◌∙◌}
use Rattle.words.proofs.RefusalLaws.{number_some}
use Rattle.player.proofs.UndoLaws.{surface_whole, last_inside, named_inside}
use Rattle.player.proofs.UndoLaws.{undo_limits, undo_empty, undo_unclosed, undo_long, undo_off, undo_done}
use borrow.Author.Rules.{rules}
use Rattle.player.proofs.undo.Goals as goal

pub returns-in_err-status : goal.returns-in_err-status
returns-in_err-status c =
    let e = undo_limits _ _ _ _ _ c.in_err-status.ensures (number_some _) in
    search rules

pub returns-then-used-eq0 : goal.returns-then-used-eq0
returns-then-used-eq0 c = undo_empty _ _ _ _ _ c.in_ok-status.ensures c.if-used-eq0.true

pub load-closing-requires : goal.load-closing-requires
load-closing-requires c = last_inside _ _ _ _ _ c.in_ok-status.ensures c.if-used-eq0.false

pub returns-then-closing : goal.returns-then-closing
returns-then-closing c = undo_unclosed _ _ _ _ _ c.in_ok-status.ensures c.if-used-eq0.false c.load-closing.ensures c.if-closing.true

pub returns-then-last-named : goal.returns-then-last-named
returns-then-last-named c =
    undo_long _ _ _ _ _ c.in_ok-status.ensures c.if-used-eq0.false c.load-closing.ensures c.if-closing.false c.if-last-named.true

pub any_off-requires : goal.any_off-requires
any_off-requires c = named_inside _ _ _ _ _ c.in_ok-status.ensures c.if-last-named.false

pub returns-then-any_off : goal.returns-then-any_off
returns-then-any_off c =
    undo_off _ _ _ _ _ c.in_ok-status.ensures c.if-used-eq0.false c.load-closing.ensures c.if-closing.false c.if-last-named.false c.any_off.ensures
    c.if-any_off.true

pub restore-requires : goal.restore-requires
restore-requires c = record {
  in_journal = named_inside _ _ _ _ _ c.in_ok-status.ensures c.if-last-named.false;
  whole_surface = surface_whole _ _ _ _ _ c.in_ok-status.ensures;
  on_surface = sym c.any_off.ensures ∙ c.if-any_off.false;
}

pub returns : goal.returns
returns c =
    undo_done _ _ _ _ _ c.in_ok-status.ensures c.if-used-eq0.false c.load-closing.ensures c.if-closing.false c.if-last-named.false c.any_off.ensures
    c.if-any_off.false c.restore.ensures
