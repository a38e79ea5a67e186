-- The record's status is 21's, or one before it; the lent memory's come before that, and 14 behind it is not 21. Assumes nothing.
use mathlib.Core.Path.{◌≡◌, refl, sym, ap, ◌∙◌}
use Prim.Native.Nat.{ℕ, zero, suc, ◌+◌, ◌-◌, ◌≤◌}
use native.Mathlib.Omega.{arith}
use lib.Dec.{lit≤, ltb}
use lib.ListN.{length}
use Rattle.words.specs.Status.{or_else}
use Rattle.words.proofs.ChoiceLaws.{cond_upto, or_else_upto, or_else_middle}
use Rattle.judge.specs.Check.{status_of}
use Rattle.judge.specs.SharedBytes.{SharesBytes, before21}
use Rattle.judge.proofs.SharedBytesLaws.{shared_bytes}
use Rattle.journal.specs.Drawing.{Work}
use Rattle.memory.specs.Memory.{Memory, Outcome, outcome, settle, bad_surface, bad_journal, surface_status, journal_status, limits, memory_status, records}
use Rattle.memory.specs.Playing.{counted, full_status, play_of}
use Rattle.player.specs.Calls.{Play, work, play_outcome}
use Rattle.player.specs.SharedInPlays.{SharedInPlays}
use Rattle.player.proofs.Conditions.{condition2}

settled : (memory early full : ℕ) (m : Memory) (good : Outcome)
    → settle (or_else memory (or_else (or_else early 21) full)) m good ≡ outcome (or_else memory (or_else early 21)) 0 m
settled zero zero full m good = refl
settled zero (suc k) full m good = refl
settled (suc k) early full m good = refl

refused : (width height : ℕ) (p : Play) (m : Memory) → SharesBytes p.bytes
    → play_outcome width height p m ≡ outcome (or_else (memory_status width height m) (or_else (before21 p.bytes) 21)) 0 m
unfolding play_outcome play_of
refused width height p m c =
    let k : Work = work width height p in
    ap (λ (n : ℕ). play_of width height n k m) ((shared_bytes p.bytes).refused c)
    ∙ settled (memory_status width height m) (before21 p.bytes) (full_status k m) m _

memory_upto : (width height : ℕ) (m : Memory) → memory_status width height m ≤ 2
unfolding limits surface_status journal_status
memory_upto width height m =
    or_else_upto (surface_status width height (length m.surface)) (journal_status (length m.journal) m.used)
    (cond_upto (bad_surface width height (length m.surface)) 1 0 (lit≤ tt) (lit≤ tt))
    (cond_upto (bad_journal (length m.journal) m.used) 2 0 (lit≤ tt) (lit≤ tt))

full_upto : (k : Work) (m : Memory) → full_status k m ≤ 14
unfolding full_status
full_upto k m = cond_upto (ltb (records m - m.used) (counted k + 1)) 14 0 (lit≤ tt) (lit≤ tt)

pub shared_in_plays : SharedInPlays
shared_in_plays = record {
  refused = refused;
  only = λ width height p m e.
      let k : Work = work width height p in
      let n : status_of p.bytes ≡ 21 =
      or_else_middle (memory_status width height m) (status_of p.bytes) (full_status k m)
      (omega (arith, memory_upto width height m)) (omega (arith, full_upto k m)) (sym (condition2 width height p m).exact ∙ e) in
      ((shared_bytes p.bytes).only n).1;
}
