-- A play on the lent memory and on the history. Assumes nothing.
use mathlib.Core.Path.{◌≡◌, refl, sym, ap, ◌∙◌, subst}
use mathlib.Core.List.{List, ◌∷◌}
use Prim.Native.Nat.{ℕ, zero, suc, ◌+◌, ◌-◌, ◌*◌, ◌/◌, ◌≤◌}
use native.Mathlib.Omega.{arith}
use lib.Dec.{ltb}
use lib.ListN.{length, take}
use lib.Seq.{length-sets}
use borrow.Author.Tests.{ltb-false}
use Rattle.words.specs.Status.{given}
use Rattle.words.proofs.ChoiceLaws.{given_none, or_else_none}
use Rattle.journal.specs.Records.{stride, Entry, bytes_of}
use Rattle.journal.proofs.RecordLaws.{length_bytes}
use Rattle.journal.proofs.UndoLaws.{front_stored}
use Rattle.judge.specs.Check.{status_of}
use Rattle.memory.specs.Memory.{Memory, outcome, settle}
use Rattle.memory.specs.Playing.{drawn_by, appended, played, full_status, play_of}
use Rattle.memory.proofs.PlayingLaws.{length_appended}
use Rattle.player.specs.Calls.{Play, work, play_outcome}
use Rattle.history.specs.History.{History, history, count, records_used, drawn_all, surface_of, used_of, push_status, push}
use Rattle.history.proofs.Kept.{entries_of, Frame, Kept, kept_passes, Step}

module _ (w h : ℕ) (p : Play) (q : History) (m : Memory) (K : Kept w h q m) where
  -- the journal after an accepted play: what was in use, and then what the play appended
  journal_more : used_of w h q + (count w h p + 1) ≤ q.records
      → take ((used_of w h q + (count w h p + 1)) * stride) (played w (work w h p) m).journal ≡ bytes_of (entries_of w h (p ∷ q.plays) q.start)
  unfolding played entries_of
  journal_more le =
      let new : List Entry = appended w (work w h p) (surface_of w h q) in
      let n : length (bytes_of new) ≡ (count w h p + 1) * stride =
      length_bytes new ∙ ap (λ (k : ℕ). k * stride) (length_appended w (work w h p) (surface_of w h q)) in
      rw (K.used, K.surface)
      (front_stored m.journal (used_of w h q * stride) (entries_of w h q.plays q.start) new ((used_of w h q + (count w h p + 1)) * stride)
      K.journal (omega (arith, n)) (omega (arith, K.size)))

  kept_more : used_of w h q + (count w h p + 1) ≤ q.records → Kept w h (history q.start q.records (p ∷ q.plays)) (played w (work w h p) m)
  unfolding played drawn_all records_used
  kept_more le =
      let z : length (played w (work w h p) m).journal ≡ length m.journal =
      length-sets m.journal (m.used * stride) (bytes_of (appended w (work w h p) m.surface)) in
      record {
        surface = ap (drawn_by w (work w h p)) K.surface;
        used = ap (λ (n : ℕ). n + (count w h p + 1)) K.used;
        size = ap (λ (n : ℕ). n / stride) z ∙ K.size;
        fits = le;
        journal = journal_more le;
        frame = subst (Frame w h q.start) (sym z) K.frame;
      }

  -- the play's status is the history's
  play_is : play_outcome w h p m ≡ settle (push_status w h p q) m (outcome 0 (count w h p) (played w (work w h p) m))
  unfolding play_outcome play_of full_status push_status
  play_is = rw (kept_passes w h q m K, K.size, K.used)

  accepted_or_not : (r : ℕ) → push_status w h p q ≡ r
      → Step w h (settle r m (outcome 0 (count w h p) (played w (work w h p) m))) (push r (count w h p) p q)
  unfolding push_status
  accepted_or_not zero e =
      let g : given 14 (ltb (q.records - used_of w h q) (count w h p + 1)) 0 ≡ 0 = (or_else_none (status_of p.bytes) _ e).1 in
      let l : count w h p + 1 ≤ q.records - used_of w h q = ltb-false _ _ (given_none 14 _ 0 (omega arith) g).0 in
      record { answer = refl; kept = kept_more (omega (arith, l, K.fits)) }
  accepted_or_not (suc r) e = record { answer = refl; kept = K }

  pub play_step : Step w h (play_outcome w h p m) (push (push_status w h p q) (count w h p) p q)
  play_step = rw play_is (accepted_or_not (push_status w h p q) refl)
