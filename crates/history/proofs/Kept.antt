-- What links the lent memory and the history, and stays so from call to call. Assumes nothing.
use mathlib.Core.Path.{◌≡◌, refl, sym, ap, ap₂, ◌∙◌}
use mathlib.Core.List.{List, [], ◌∷◌, ◌++◌}
use Prim.Native.Nat.{ℕ, ◌+◌, ◌*◌, ◌/◌, ◌≤◌}
use native.Mathlib.Omega.{arith}
use lib.ListN.{length, take, length-append}
use Rattle.journal.specs.Records.{stride, Entry, bytes_of}
use Rattle.journal.proofs.RecordLaws.{length_drawn}
use Rattle.journal.proofs.UndoLaws.{words_drawn}
use Rattle.memory.specs.Memory.{Memory, memory, Outcome, limits, memory_status, records}
use Rattle.memory.proofs.LimitLaws.{passed, limits_none}
use Rattle.memory.proofs.PlayingLaws.{length_appended}
use Rattle.memory.specs.Playing.{drawn_by, appended}
use Rattle.player.specs.Calls.{Play, work}
use Rattle.player.proofs.WorkLaws.{paints_pixels}
use Rattle.history.specs.History.{answered, History, history, records_used, drawn_all, surface_of, used_of, Turn}
use Rattle.history.specs.Lists.{Words32}

-- ---- the surface and the journal of a history's plays

-- a play is drawn over those below it
pub drawn_over : (w h : ℕ) (p : Play) (below : List Play) (s : List ℕ)
    → drawn_all w h (p ∷ below) s ≡ drawn_by w (work w h p) (drawn_all w h below s)
unfolding drawn_all
drawn_over w h p below s = refl

length_drawn_all : (w h : ℕ) (ps : List Play) (s : List ℕ) → length (drawn_all w h ps s) ≡ length s
unfolding drawn_all
length_drawn_all w h [] s = refl
length_drawn_all w h (p ∷ ps) s =
    ap length (drawn_over w h p ps s) ∙ length_drawn w (work w h p).paint (work w h p).points (drawn_all w h ps s) ∙ length_drawn_all w h ps s

pub pixels_drawn_all : (w h : ℕ) (ps : List Play) (s : List ℕ) → Words32 s → Words32 (drawn_all w h ps s)
unfolding drawn_all
pixels_drawn_all w h [] s b = b
pixels_drawn_all w h (p ∷ ps) s b =
    words_drawn w (work w h p).paint (paints_pixels w h p) (work w h p).points (drawn_all w h ps s) (pixels_drawn_all w h ps s b)

-- all that the plays have appended, lowest first
unfoldable pub entries_of : (w h : ℕ) → List Play → (start : List ℕ) → List Entry
entries_of w h [] s = []
entries_of w h (p ∷ below) s = entries_of w h below s ++ appended w (work w h p) (drawn_all w h below s)

pub length_entries : (w h : ℕ) (ps : List Play) (s : List ℕ) → length (entries_of w h ps s) ≡ records_used w h ps
unfolding entries_of records_used
length_entries w h [] s = refl
length_entries w h (p ∷ ps) s =
    length-append (entries_of w h ps s) _ ∙ ap₂ (λ (n m : ℕ). n + m) (length_entries w h ps s) (length_appended w (work w h p) (drawn_all w h ps s))

-- ---- statuses 1 and 2

-- what stays as it is through all calls: from a surface `start` and a journal of `size` bytes, statuses 1 and 2 are never given
pub record Frame (w h : ℕ) (start : List ℕ) (size : ℕ) : Type 0 where
  pub wide : w ≤ 4096
  pub high : h ≤ 4096
  pub most : size / stride ≤ 20000000
  pub pixels : Words32 start
  pub passes : (used : ℕ) → used ≤ size / stride → limits w h (length start) size used ≡ 0

-- the count in use may change, up to the journal's records
pub framed : (w h : ℕ) (s j : List ℕ) → Words32 s → memory_status w h (memory s j 0) ≡ 0 → Frame w h s (length j)
framed w h s j b e =
    let p = passed w h (length s) (length j) 0 e in
    record {
      wide = p.wide.1;
      high = p.high.1;
      most = p.most;
      pixels = b;
      passes = λ used le. sym (limits_none
          (record { wide = p.wide; high = p.high; pixels_are = p.pixels_are; whole = p.whole; most = p.most; enough = le }));
    }

-- ---- the link, and one call

-- m is the memory that the history q stands for
pub record Kept (w h : ℕ) (q : History) (m : Memory) : Type 0 where
  pub surface : m.surface ≡ surface_of w h q
  pub used : m.used ≡ used_of w h q
  pub size : records m ≡ q.records
  pub fits : used_of w h q ≤ q.records
  pub journal : take (used_of w h q * stride) m.journal ≡ bytes_of (entries_of w h q.plays q.start)
  pub frame : Frame w h q.start (length m.journal)

pub kept_passes : (w h : ℕ) (q : History) (m : Memory) → Kept w h q m → memory_status w h m ≡ 0
kept_passes w h q m K =
    ap (λ (n : ℕ). limits w h n (length m.journal) m.used) (ap length K.surface ∙ length_drawn_all w h q.plays q.start)
    ∙ K.frame.passes m.used (omega (arith, K.used, K.fits, K.size))

-- a call's outcome and the history's turn agree
pub record Step (w h : ℕ) (o : Outcome) (t : Turn) : Type 0 where
  pub answer : answered o.status o.number ≡ t.answer
  pub kept : Kept w h t.next o.after

-- a list of calls begins
pub kept_none : (w h : ℕ) (s j : List ℕ) → Frame w h s (length j) → Kept w h (history s (records (memory s j 0)) []) (memory s j 0)
unfolding drawn_all records_used entries_of bytes_of
kept_none w h s j F = record { surface = refl; used = refl; size = refl; fits = omega arith; journal = refl; frame = F }
