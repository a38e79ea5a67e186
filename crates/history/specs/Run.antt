-- A list of calls as bytes, and what running it answers and leaves: condition 3 as a promise of running code. Definitions only.
--
-- The bytes are 32-bit numbers: how many calls, then the calls, and nothing behind them. A play: 1, left, top, right, bottom, brush, a
-- number that is kept for a tag and not looked at, the record's length, the record, and bytes up to the next multiple of 4. An undo: 2.
use Rattle.std.specs.Prelude.{ℕ, zero, suc, ◌+◌, ◌*◌, ◌/◌, Bool, cond, not, ◌&&◌, List, [], ◌∷◌, length, eqb, leb, ltb}
use Rattle.std.proofs.lemmas.List.Edits.{sets}
use Rattle.words.specs.Bytes.{part_of, le32}
use Rattle.words.specs.Status.{given, or_else}
use Rattle.meaning.specs.Meaning.{terms_at}
use Rattle.memory.specs.Memory.{memory, memory_status, records}
use Rattle.player.specs.Calls.{Play, play_with}
use Rattle.history.specs.History.{Call, call_play, call_undo, Answered, history, surface_of, used_of, history_answers, history_after}
use Rattle.history.specs.Lists.{memory_after}

-- a record's length, up to the next multiple of 4
abbrev pub padded : ℕ → ℕ
padded n = (n + 3) / 4 * 4

-- the length of the call at a place of the list, and 0 where none stands there whole
unfoldable pub call_length : (list : List ℕ) (at : ℕ) → ℕ
call_length l at =
    cond (eqb (le32 l at) 1) (cond (leb (at + (32 + padded (le32 l (at + 28)))) (length l)) (32 + padded (le32 l (at + 28))) 0)
    (cond (eqb (le32 l at) 2 && leb (at + 4) (length l)) 4 0)

abbrev pub play_at : (list : List ℕ) (at : ℕ) → Play
play_at l at = play_with (part_of l (at + 32) (le32 l (at + 28))) (terms_at l (at + 4))

-- the call at a place
unfoldable pub call_at : (list : List ℕ) (at : ℕ) → Call
call_at l at = cond (eqb (le32 l at) 1) (call_play (play_at l at)) call_undo

-- n calls from a place on, and nothing behind them
unfoldable pub well_formed : (list : List ℕ) (at n : ℕ) → Bool
well_formed l at zero = eqb at (length l)
well_formed l at (suc n) = not (eqb (call_length l at) 0) && well_formed l (at + call_length l at) n

unfoldable pub calls_from : (list : List ℕ) (at n : ℕ) → List Call
calls_from l at zero = []
calls_from l at (suc n) = call_at l at ∷ calls_from l (at + call_length l at) n

abbrev pub calls_in : (list : List ℕ) → ℕ
calls_in l = le32 l 0

abbrev pub calls_of : (list : List ℕ) → List Call
calls_of l = calls_from l 4 (calls_in l)

-- the answers as numbers, two each
unfoldable pub numbers_of : List Answered → List ℕ
numbers_of [] = []
numbers_of (a ∷ rest) = a.status ∷ a.number ∷ numbers_of rest

-- 1 and 2; 29: the list is malformed; 30: the answers exceed the room
unfoldable pub run_status : (width height : ℕ) (surface journal list : List ℕ) (room : ℕ) → ℕ
run_status width height surface journal l room =
    or_else (memory_status width height (memory surface journal 0)) (given 29 (not (well_formed l 4 (calls_in l))) (given 30 (ltb room (calls_in l * 2)) 0))

-- what a run answers and leaves
pub record Ran : Type 0 where
  pub status : ℕ
  pub calls : ℕ
  pub used : ℕ
  pub surface : List ℕ
  pub journal : List ℕ
  pub answers : List ℕ

abbrev pub ran : (status calls used : ℕ) (surface journal answers : List ℕ) → Ran
ran status calls used surface journal answers =
    record { status = status; calls = calls; used = used; surface = surface; journal = journal; answers = answers }

-- a refused run changes nothing; a run answers what the history answers, and leaves its surface and the records that it uses
abbrev pub settle_run : (status : ℕ) (width height : ℕ) (surface journal list answers : List ℕ) → Ran
settle_run zero width height surface journal l answers = record {
  status = 0;
  calls = calls_in l;
  used = used_of width height (history_after width height (calls_of l) (history surface (records (memory surface journal 0)) []));
  surface = surface_of width height (history_after width height (calls_of l) (history surface (records (memory surface journal 0)) []));
  journal = (memory_after width height (calls_of l) (memory surface journal 0)).journal;
  answers = sets answers 0 (numbers_of (history_answers width height (calls_of l) (history surface (records (memory surface journal 0)) [])));
}
settle_run (suc k) width height surface journal l answers = ran (suc k) 0 0 surface journal answers

unfoldable pub run_of : (width height : ℕ) (surface journal list answers : List ℕ) → Ran
run_of width height surface journal l answers =
    settle_run (run_status width height surface journal l (length answers)) width height surface journal l answers
