-- The top play p of a history, over the plays `below`, in the lent memory that is kept with it: what the journal's last records are, and
-- that an undo finds them good. Whoever walks down the plays cites these. Assumes nothing.
use mathlib.Core.Path.{◌≡◌, sym, ap, ◌∙◌}
use mathlib.Core.Bool.{false, not, ◌||◌}
use mathlib.Core.List.{List, [], ◌∷◌, ◌++◌, append_assoc}
use Prim.Native.Nat.{ℕ, ◌+◌, ◌-◌, ◌*◌, ◌≤◌}
use native.Mathlib.Omega.{arith}
use lib.Dec.{eqb, ltb}
use lib.ListN.{length, take, drop, length-append}
use borrow.Author.Tests.{le-ltb, eq-eqb}
use Rattle.words.proofs.ChoiceLaws.{or_by_second}
use Rattle.journal.specs.All.{All}
use Rattle.journal.specs.Records.{mark, stride, Entry, bytes_of, saved, closing, entries_at}
use Rattle.journal.specs.Restoring.{any_off}
use Rattle.journal.proofs.RecordLaws.{length_saved, bytes_append}
use Rattle.journal.proofs.UndoLaws.{saved_on, EntryWords, words_saved, closing_back, entries_back, front_drop, front_take}
use Rattle.memory.specs.Memory.{Memory}
use Rattle.memory.specs.Playing.{appended}
use Rattle.memory.specs.Undoing.{last, named, top, bad_top}
use Rattle.player.specs.Calls.{Play, work}
use Rattle.player.proofs.WorkLaws.{points_on, paints_pixels}
use Rattle.history.specs.History.{history, count, records_used, drawn_all}
use Rattle.history.proofs.Kept.{pixels_drawn_all, entries_of, length_entries, Kept}

module _ (w h : ℕ) (start : List ℕ) (n : ℕ) (p : Play) (below : List Play) (m : Memory) (K : Kept w h (history start n (p ∷ below)) m) where
  -- the surface under the top play, and what the play saved of it
  under : List ℕ
  under = drawn_all w h below start

  held : List Entry
  held = saved w (work w h p).paint (work w h p).points under

  closed : List Entry
  closed = closing (count w h p) (work w h p).kind ∷ []

  length_held : length held ≡ count w h p
  unfolding held
  length_held = length_saved w (work w h p).paint (work w h p).points under

  used_is : m.used ≡ records_used w h below + (count w h p + 1)
  unfolding records_used
  used_is = K.used

  few : records_used w h below + (count w h p + 1) ≤ n
  unfolding records_used
  few = K.fits

  -- the journal in use: the entries of the plays below, then what the top play saved, then its closing record
  in_use : take (m.used * stride) m.journal ≡ bytes_of (entries_of w h below start ++ (held ++ closed))
  unfolding under held closed entries_of appended
  in_use = ap (λ (k : ℕ). take (k * stride) m.journal) K.used ∙ K.journal

  -- the last record in use is that closing record
  last_bytes : drop ((m.used - 1) * stride) m.journal ≡ bytes_of closed ++ drop (m.used * stride) m.journal
  last_bytes =
      let a : List Entry = entries_of w h below start ++ held in
      let la : length a ≡ m.used - 1 =
      omega (arith, length-append (entries_of w h below start) held, length_entries w h below start, length_held, used_is) in
      ap (λ (k : ℕ). drop (k * stride) m.journal) (sym la)
      ∙ front_drop m.journal (m.used * stride) a closed (in_use ∙ ap bytes_of (sym (append_assoc (entries_of w h below start) held closed)))

  closes : ((last m).first ≡ mark) × (named m ≡ count w h p)
  unfolding closed
  closes =
      closing_back m.journal (m.used - 1) (count w h p) (work w h p).kind (drop (m.used * stride) m.journal) last_bytes
      (omega (arith, few, K.size, K.frame.most))

  -- the records that it names are those that the play saved
  words : All EntryWords held
  unfolding held under
  words =
      words_saved w (work w h p).paint (paints_pixels w h p) h (work w h p).points under (omega (arith, K.frame.wide)) (omega (arith, K.frame.high))
      (points_on w h p) (pixels_drawn_all w h below start K.frame.pixels)

  top_is : top m ≡ held
  top_is =
      let j : List ℕ = m.journal in
      let rest : List ℕ = drop (m.used * stride) j in
      let from : length (entries_of w h below start) ≡ m.used - 1 - count w h p = omega (arith, length_entries w h below start, used_is) in
      ap (λ (k : ℕ). entries_at j (m.used - 1 - k) k) closes.1
      ∙ ap (entries_at j (m.used - 1 - count w h p)) (sym length_held)
      ∙ entries_back held j (m.used - 1 - count w h p) (bytes_of closed ++ rest) words
      (ap (λ (k : ℕ). drop (k * stride) j) (sym from)
      ∙ front_drop j (m.used * stride) (entries_of w h below start) (held ++ closed) in_use
      ∙ ap (λ (l : List ℕ). l ++ rest) (bytes_append held closed) ∙ append_assoc (bytes_of held) (bytes_of closed) rest)

  good_top : bad_top w h m ≡ false
  unfolding bad_top held
  good_top =
      let u : named m ≤ m.used - 1 = omega (arith, used_is, closes.1) in
      or_by_second (not (eqb (last m).first mark) || ltb (m.used - 1) (named m)) _
      (or_by_second (not (eqb (last m).first mark)) _ (ap not (eq-eqb (last m).first mark closes.0)) (le-ltb (m.used - 1) (named m) u))
      (ap (any_off w h) top_is ∙ saved_on w h (work w h p).paint (work w h p).points under (points_on w h p))

  -- the journal below the top play is that of the plays below it
  below_is : take (records_used w h below * stride) m.journal ≡ bytes_of (entries_of w h below start)
  below_is =
      ap (λ (k : ℕ). take (k * stride) m.journal) (sym (length_entries w h below start))
      ∙ front_take m.journal (m.used * stride) (entries_of w h below start) (held ++ closed)
      (omega (arith, length_entries w h below start, used_is)) in_use

-- what is known of the top play
pub record TopPlay (w h : ℕ) (start : List ℕ) (n : ℕ) (p : Play) (below : List Play) (m : Memory) : Type 0 where
  pub used_is : m.used ≡ records_used w h below + (count w h p + 1)
  pub fits : records_used w h below + (count w h p + 1) ≤ n
  -- the last record in use closes it, and names its pixels
  pub closes : (last m).first ≡ mark
  pub names : named m ≡ count w h p
  -- the records that are named are those that it saved, of the surface under it
  pub records : top m ≡ saved w (work w h p).paint (work w h p).points (drawn_all w h below start)
  pub good : bad_top w h m ≡ false
  pub below_is : take (records_used w h below * stride) m.journal ≡ bytes_of (entries_of w h below start)

pub top_play : (w h : ℕ) (start : List ℕ) (n : ℕ) (p : Play) (below : List Play) (m : Memory) → Kept w h (history start n (p ∷ below)) m
    → TopPlay w h start n p below m
unfolding held under
top_play w h start n p below m K = record {
  used_is = used_is w h start n p below m K;
  fits = few w h start n p below m K;
  closes = (closes w h start n p below m K).0;
  names = (closes w h start n p below m K).1;
  records = top_is w h start n p below m K;
  good = good_top w h start n p below m K;
  below_is = below_is w h start n p below m K;
}
