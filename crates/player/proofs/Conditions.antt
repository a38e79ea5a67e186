-- Conditions 1 and 2: a refused call is settled before anything is written, and an accepted play is drawn and journalled as `played` says, which
-- `pixel_by_pixel` says of each pixel. Assumes nothing.
use mathlib.Core.Path.{◌≡◌, refl, sym, subst}
use mathlib.Core.List.{List, [], ◌∷◌, ◌++◌}
use Prim.Native.Nat.{ℕ, zero, suc, ◌+◌, ◌-◌, ◌*◌, ◌/◌, ◌≤◌}
use native.Mathlib.Omega.{arith}
use lib.Dec.{ltb}
use lib.ListN.{length}
use lib.Seq.{sets, length-sets}
use borrow.Author.Tests.{ltb-false}
use Rattle.words.proofs.ChoiceLaws.{given_none, or_else_none}
use Rattle.words.proofs.ListLaws.{get_or_sets_before, get_or_sets_behind, get_or_sets_in}
use Rattle.region.specs.declared.Target.{Target}
use Rattle.journal.specs.Records.{stride, Entry, bytes_of, closing}
use Rattle.journal.proofs.RecordLaws.{length_bytes, length_drawn}
use Rattle.judge.specs.Check.{status_of}
use Rattle.memory.specs.Memory.{Memory, Outcome, outcome, settle, memory_status}
use Rattle.memory.specs.Playing.{counted, drawn_by, appended, played, full_status, play_status, play_of}
use Rattle.memory.specs.Undoing.{undo_status, undo_of}
use Rattle.memory.proofs.LimitLaws.{Passed, passed}
use Rattle.memory.proofs.PlayingLaws.{length_appended}
use Rattle.meaning.specs.Meaning.{meaning_of, target_in, work_of}
use Rattle.player.specs.Calls.{Play, work, play_outcome}
use Rattle.player.specs.Pixels.{Pixels}
use Rattle.player.specs.Conditions.{Settled, Condition1, Appended, records_of, Played, Judged, Condition2}
use Rattle.player.proofs.PixelLaws.{pixel_by_pixel}

-- ---- condition 1

settled : (rules : ℕ) (m : Memory) (good : Outcome) → good.status ≡ 0 → Settled rules m (settle rules m good)
settled zero m good e = record { number_given = e; refused = λ z. absurd (z e) }
settled (suc k) m good e = record { number_given = refl; refused = λ z. refl }

pub condition1 : Condition1
unfolding play_outcome play_of undo_of
condition1 = record {
  of_play = λ w h p m. settled (play_status w h (status_of p.bytes) (work w h p) m) m _ refl;
  of_undo = λ w h m. settled (undo_status w h m) m _ refl;
}

-- ---- condition 2

-- bytes that are written from a record on, within the journal
written : (j : List ℕ) (u : ℕ) (es : List Entry) → (u + length es) * stride ≤ length j → Appended j u es (sets j (u * stride) (bytes_of es))
written j u es l =
    let n = length_bytes es in
    record {
      long = length-sets j (u * stride) (bytes_of es);
      below = λ i b. get_or_sets_before j (u * stride) (bytes_of es) i 0 b;
      records = λ i b. get_or_sets_in j (u * stride) (bytes_of es) i 0 (omega (arith, n)) (omega (arith, n));
      above = λ i b. get_or_sets_behind j (u * stride) (bytes_of es) i 0 (omega (arith, n));
    }

module _ (w h : ℕ) (p : Play) (m : Memory) (e : play_status w h (status_of p.bytes) (work w h p) m ≡ 0) where
  abbrev t : Target
  t = target_in w h (meaning_of p.bytes) p.terms.clip

  memory_passed : Passed w h (length m.surface) (length m.journal) m.used
  memory_passed = passed w h (length m.surface) (length m.journal) m.used (or_else_none (memory_status w h m) _ e).0

  -- 14 is not given
  room : (m.used + (counted (work w h p) + 1)) * stride ≤ length m.journal
  unfolding full_status
  room =
      let later = (or_else_none (memory_status w h m) _ e).1 in
      let full = (or_else_none (status_of p.bytes) (full_status (work w h p) m) later).1 in
      let free : counted (work w h p) + 1 ≤ length m.journal / stride - m.used =
      ltb-false _ _ (given_none 14 (ltb (length m.journal / stride - m.used) (counted (work w h p) + 1)) 0 (omega arith) full).0 in
      omega (arith, free, memory_passed.enough)

  middle : Pixels w h p m.surface (drawn_by w (work w h p) m.surface) (meaning_of p.bytes) t
  middle = pixel_by_pixel w h p m.surface memory_passed.pixels_are

  -- what is appended, with each pixel of the surface before
  appended_is : appended w (work w h p) m.surface ≡ records_of w m.surface t (meaning_of p.bytes).kind
  unfolding appended work work_of
  appended_is = λ i. middle.records i ++ (closing (middle.count i) (meaning_of p.bytes).kind ∷ [])

  accepted : Played w h p m (meaning_of p.bytes) t (outcome 0 (counted (work w h p)) (played w (work w h p) m))
  unfolding played
  accepted = record {
    long = length_drawn w _ _ m.surface;
    pixels = middle;
    count = middle.count;
    journal = subst (λ (es : List Entry). Appended m.journal m.used es (played w (work w h p) m).journal) appended_is
        (written m.journal m.used (appended w (work w h p) m.surface) (omega (arith, room, length_appended w (work w h p) m.surface)));
    used = refl;
  }

judged : (w h : ℕ) (p : Play) (m : Memory) (rules : ℕ) → rules ≡ play_status w h (status_of p.bytes) (work w h p) m
    → Judged w h p m (settle rules m (outcome 0 (counted (work w h p)) (played w (work w h p) m)))
judged w h p m zero e =
    record { exact = e; none_counted = λ z. absurd (z refl); as_before = λ z. absurd (z refl); accepted = λ z. accepted w h p m (sym e) }
judged w h p m (suc k) e = record { exact = e; none_counted = λ z. refl; as_before = λ z. refl; accepted = λ z. absurd (omega (arith, z)) }

pub condition2 : Condition2
unfolding play_outcome play_of
condition2 w h p m = judged w h p m (play_status w h (status_of p.bytes) (work w h p) m) refl
