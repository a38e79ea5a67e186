-- Condition 3: after every list of plays and undos each call has answered what the history answers, the surface is the history's, and the count
-- in use is the records that it uses. Assumes nothing.
use mathlib.Core.Path.{refl, ap₂}
use mathlib.Core.List.{List, [], ◌∷◌}
use Prim.Native.Nat.{ℕ}
use Rattle.memory.specs.Memory.{Memory, memory, records}
use Rattle.history.specs.History.{Call, call_play, call_undo, Answered, History, history, turn_of, history_answers, history_after}
use Rattle.history.specs.Lists.{made, answers, memory_after, Agree, Condition3}
use Rattle.history.proofs.Kept.{framed, Kept, Step, kept_none}
use Rattle.history.proofs.PlayStep.{play_step}
use Rattle.history.proofs.UndoStep.{undo_step}

step : (w h : ℕ) (k : Call) (q : History) (m : Memory) → Kept w h q m → Step w h (made w h k m) (turn_of w h k q)
step w h (call_play p) q m K = play_step w h p q m K
step w h call_undo q m K = undo_step w h q.start q.records q.plays m K

every_list : (w h : ℕ) (ks : List Call) (q : History) (m : Memory) → Kept w h q m → Agree w h ks m q
unfolding answers memory_after history_answers history_after
every_list w h [] q m K = record { answer = refl; surface = K.surface; used = K.used }
every_list w h (k ∷ ks) q m K =
    let S : Step w h (made w h k m) (turn_of w h k q) = step w h k q m K in
    let A : Agree w h ks (made w h k m).after (turn_of w h k q).next = every_list w h ks (turn_of w h k q).next (made w h k m).after S.kept in
    record { answer = ap₂ (λ (a : Answered) (l : List Answered). a ∷ l) S.answer A.answer; surface = A.surface; used = A.used }

pub condition3 : Condition3
condition3 w h s j ks b e = every_list w h ks (history s (records (memory s j 0)) []) (memory s j 0) (kept_none w h s j (framed w h s j b e))
