-- The history of condition 3 (document 01: the pile), as a model: it is told which call is made and what comes with it, "never a call's
-- sheet, journal, count or answer". Definitions only.
use Rattle.std.specs.Prelude.{ℕ, zero, suc, ◌+◌, ◌-◌, List, [], ◌∷◌, ltb}
use Rattle.words.specs.Status.{given, or_else}
use Rattle.judge.specs.Check.{status_of}
use Rattle.memory.specs.Playing.{counted, drawn_by}
use Rattle.player.specs.Calls.{Play, work}

-- a call of the list
pub data Call : Type 0 where
  call_play : Play → Call
  call_undo : Call

-- what a call answers
pub record Answered : Type 0 where
  pub status : ℕ
  pub number : ℕ

abbrev pub answered : (status number : ℕ) → Answered
answered status number = record { status = status; number = number }

-- "Its state is the starting sheet, the journal's number of records, and its plays, none at first, each with all that came with its
-- call." The plays are listed from the top down.
pub record History : Type 0 where
  pub start : List ℕ
  pub records : ℕ
  pub plays : List Play

abbrev pub history : (start : List ℕ) (records : ℕ) (plays : List Play) → History
history start records plays = record { start = start; records = records; plays = plays }

abbrev pub count : (width height : ℕ) → Play → ℕ
count width height p = counted (work width height p)

-- the journal's records in use (document 01: the pile's room): "the sum of count + 1 over its plays"
unfoldable pub records_used : (width height : ℕ) → List Play → ℕ
records_used width height [] = 0
records_used width height (p ∷ below) = records_used width height below + (count width height p + 1)

-- "Its sheet is the starting sheet with its plays drawn, lowest first."
unfoldable pub drawn_all : (width height : ℕ) → List Play → (start : List ℕ) → List ℕ
drawn_all width height [] s = s
drawn_all width height (p ∷ below) s = drawn_by width (work width height p) (drawn_all width height below s)

abbrev pub surface_of : (width height : ℕ) → History → List ℕ
surface_of width height q = drawn_all width height q.plays q.start

abbrev pub used_of : (width height : ℕ) → History → ℕ
used_of width height q = records_used width height q.plays

-- an answer, and the history afterwards
pub record Turn : Type 0 where
  pub answer : Answered
  pub next : History

abbrev pub turn : (status number : ℕ) → History → Turn
turn status number next = record { answer = answered status number; next = next }

-- "if a refusal ordered from 3 to 13 applies to its record, the answer is the first of these and 0 pixels. Otherwise, if its count + 1
-- exceeds the journal's records less the room, the answer is 14 and 0 pixels." With document 02, item 5, 21 is among them, in its place.
unfoldable pub push_status : (width height : ℕ) → Play → History → ℕ
push_status width height p q =
    or_else (status_of p.bytes) (given 14 (ltb (q.records - used_of width height q) (count width height p + 1)) 0)

-- "Otherwise it goes on top, and the answer is 0 with its count." "A refused call leaves the pile as it is."
abbrev pub push : (status count : ℕ) → Play → History → Turn
push zero n p q = turn 0 n (history q.start q.records (p ∷ q.plays))
push (suc k) n p q = turn (suc k) 0 q

-- "Take-back: with no plays the answer is 15 and 0 pixels. Otherwise the top play leaves, and the answer is 0 with its count."
abbrev pub pop : (width height : ℕ) → List Play → History → Turn
pop width height [] q = turn 15 0 q
pop width height (p ∷ below) q = turn 0 (count width height p) (history q.start q.records below)

abbrev pub turn_of : (width height : ℕ) → Call → History → Turn
turn_of width height (call_play p) q = push (push_status width height p q) (count width height p) p q
turn_of width height call_undo q = pop width height q.plays q

-- a whole list of calls: its answers, and the history afterwards
unfoldable pub history_answers : (width height : ℕ) → List Call → History → List Answered
history_answers width height [] q = []
history_answers width height (k ∷ ks) q = (turn_of width height k q).answer ∷ history_answers width height ks (turn_of width height k q).next

unfoldable pub history_after : (width height : ℕ) → List Call → History → History
history_after width height [] q = q
history_after width height (k ∷ ks) q = history_after width height ks (turn_of width height k q).next
