-- Conditions 1 and 2: what `play` and `undo` answer and leave, for every input. Definitions only.
use Rattle.std.specs.Prelude.{ℕ, List}
use Rattle.meaning.specs.declared.Terms.{Terms}
use Rattle.journal.specs.Drawing.{Work}
use Rattle.memory.specs.Memory.{Memory, Outcome, outcome, settle}
use Rattle.memory.specs.Playing.{counted, played, full_status, play_of}
use Rattle.judge.specs.Check.{status_of}
use Rattle.meaning.specs.Meaning.{meaning_of, work_of}

-- "a play's record, clip and brush"
pub record Play : Type 0 where
  pub bytes : List ℕ
  pub terms : Terms

abbrev pub play_with : (bytes : List ℕ) → Terms → Play
play_with bytes terms = record { bytes = bytes; terms = terms }

-- what a play comes to on a surface of these sides
unfoldable pub work : (width height : ℕ) → Play → Work
work width height p = work_of width height (meaning_of p.bytes) p.terms

-- the statuses of the lent memory, then those of the record, then 14; else the play drawn and journalled
unfoldable pub play_outcome : (width height : ℕ) → Play → Memory → Outcome
play_outcome width height p m = play_of width height (status_of p.bytes) (work width height p) m

-- the play of a record that was read and accepted, on memory that passed: 14, or drawn and journalled
abbrev pub accepted_outcome : (width : ℕ) → Work → Memory → Outcome
accepted_outcome width k m = settle (full_status k m) m (outcome 0 (counted k) (played width k m))
