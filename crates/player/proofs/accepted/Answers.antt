-- The target's pixels and a closing record fit the journal, or 14 is answered; then rows and closing record are one run of records.
use native.Mathlib.Omega.{arith}
use Rattle.memory.proofs.LimitLaws.{passed}
use Rattle.draw.proofs.ReadyLaws.{ready}
use Rattle.player.proofs.PlayLaws.{play_full, play_drawn}
use Rattle.player.proofs.accepted.Goals as goal

pub overflow_sub-free : goal.overflow_sub-free
overflow_sub-free c =
    let a = c.args in
    omega (arith, (passed a.width a.height _ _ a.used.now c.requires.0).enough)

pub returns-then-free-pixels : goal.returns-then-free-pixels
returns-then-free-pixels c =
    let a = c.args in
    play_full a.width a.height _ _ a.used.now _ a.rec a.terms _ c.requires.0 c.clipped_target-t.ensures
    c.if-free-pixels.true

pub clipped-requires : goal.clipped-requires
clipped-requires c =
    let a = c.args in
    let memory = passed a.width a.height _ _ a.used.now c.requires.0 in
    let room = c.if-free-pixels.false in
    ready _ a.height a.terms.clip _ _ _ c.requires.1 c.clipped_target-t.ensures memory.wide.1 memory.high.1
    memory.pixels_are (omega (arith, memory.enough, room))

pub returns : goal.returns
returns c =
    let a = c.args in
    play_drawn a.width a.height _ _ a.used.now _ a.rec a.terms _ c.requires.0 c.clipped_target-t.ensures
    c.if-free-pixels.false _ _ _ c.clipped.ensures c.put.ensures
