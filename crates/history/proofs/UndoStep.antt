-- An undo on the lent memory and on the history. Assumes nothing.
use mathlib.Core.Path.{◌≡◌, refl, ap₂, ◌∙◌}
use mathlib.Core.List.{List, [], ◌∷◌}
use Prim.Native.Nat.{ℕ}
use native.Mathlib.Omega.{arith}
use borrow.Author.Tests.{eq-eqb, ne_eqb}
use Rattle.journal.specs.Restoring.{restored}
use Rattle.journal.proofs.UndoLaws.{restored_saved}
use Rattle.memory.specs.Memory.{Memory, outcome}
use Rattle.memory.specs.Undoing.{undone, undo_of}
use Rattle.player.specs.Calls.{Play, work}
use Rattle.history.specs.History.{history, count, records_used, drawn_all, pop}
use Rattle.history.proofs.Kept.{drawn_over, Kept, kept_passes, Step}
use Rattle.history.proofs.TopPlay.{TopPlay, top_play}

-- no play is in force
undo_none : (w h : ℕ) (start : List ℕ) (n : ℕ) (m : Memory) → Kept w h (history start n []) m → undo_of w h m ≡ outcome 15 0 m
unfolding undo_of records_used
undo_none w h start n m K = rw (kept_passes w h (history start n []) m K, eq-eqb m.used 0 K.used)

-- p is the top play, and those of `below` lie under it
module _ (w h : ℕ) (start : List ℕ) (n : ℕ) (p : Play) (below : List Play) (m : Memory) (K : Kept w h (history start n (p ∷ below)) m) where
  top_is : TopPlay w h start n p below m
  top_is = top_play w h start n p below m K

  undo_is : undo_of w h m ≡ outcome 0 (count w h p) (undone w m)
  unfolding undo_of
  undo_is =
      let some : m.used ≡ 0 → ⊥ = λ z. omega (arith, top_is.used_is) in
      rw (kept_passes w h (history start n (p ∷ below)) m K, ne_eqb m.used 0 some, top_is.good, top_is.names)

  kept_less : Kept w h (history start n below) (undone w m)
  unfolding undone
  kept_less =
      let under : List ℕ = drawn_all w h below start in
      record {
        surface = ap₂ (restored w) top_is.records (K.surface ∙ drawn_over w h p below start)
            ∙ restored_saved w (work w h p).paint (work w h p).points under;
        used = omega (arith, top_is.used_is, top_is.names);
        size = K.size;
        fits = omega (arith, top_is.fits);
        journal = top_is.below_is;
        frame = K.frame;
      }

pub undo_step : (w h : ℕ) (start : List ℕ) (n : ℕ) (plays : List Play) (m : Memory) → Kept w h (history start n plays) m
    → Step w h (undo_of w h m) (pop w h plays (history start n plays))
undo_step w h start n [] m K = rw (undo_none w h start n m K) (record { answer = refl; kept = K })
undo_step w h start n (p ∷ below) m K = rw (undo_is w h start n p below m K) (record { answer = refl; kept = kept_less w h start n p below m K })
