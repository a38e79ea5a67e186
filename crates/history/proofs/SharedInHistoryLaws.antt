-- The history asks for the record's status, and that is 21 or one before it; 14 behind it is not 21. Assumes nothing.
use mathlib.Core.Path.{◌≡◌, refl, sym, ap, ◌∙◌}
use mathlib.Core.Bool.{Bool}
use Prim.Native.Nat.{ℕ, zero, suc, ◌+◌, ◌-◌, ◌≤◌}
use native.Mathlib.Omega.{arith}
use lib.Dec.{ltb, lit≤, lit<}
use Rattle.words.specs.Status.{given, or_else}
use Rattle.words.proofs.ChoiceLaws.{cond_upto, or_else_middle}
use Rattle.judge.specs.Check.{status_of}
use Rattle.judge.specs.SharedBytes.{SharesBytes, before21}
use Rattle.judge.proofs.SharedBytesLaws.{shared_bytes}
use Rattle.player.specs.Calls.{Play}
use Rattle.history.specs.History.{History, call_play, turn, used_of, count, push_status, push, turn_of}
use Rattle.history.specs.SharedInHistory.{SharedInHistory}

not_pushed : (early full n : ℕ) (p : Play) (q : History) → push (or_else (or_else early 21) full) n p q ≡ turn (or_else early 21) 0 q
not_pushed zero full n p q = refl
not_pushed (suc k) full n p q = refl

number_of : (k n : ℕ) (p : Play) (q : History) → (push k n p q).answer.status ≡ k
number_of zero n p q = refl
number_of (suc k) n p q = refl

module _ (width height : ℕ) (p : Play) (q : History) where
  abbrev full : Bool
  full = ltb (q.records - used_of width height q) (count width height p + 1)

  refused : SharesBytes p.bytes → turn_of width height (call_play p) q ≡ turn (or_else (before21 p.bytes) 21) 0 q
  unfolding push_status
  refused s =
      ap (λ (k : ℕ). push (or_else k (given 14 full 0)) (count width height p) p q) ((shared_bytes p.bytes).refused s)
      ∙ not_pushed (before21 p.bytes) (given 14 full 0) (count width height p) p q

  only : (turn_of width height (call_play p) q).answer.status ≡ 21 → SharesBytes p.bytes
  unfolding push_status
  only e =
      let behind : given 14 full 0 ≤ 14 = cond_upto full 14 0 (lit≤ tt) (lit≤ tt) in
      let n : status_of p.bytes ≡ 21 =
      or_else_middle 0 (status_of p.bytes) (given 14 full 0) (lit< tt) (omega arith)
      (sym (number_of (push_status width height p q) (count width height p) p q) ∙ e) in
      ((shared_bytes p.bytes).only n).1

pub shared_in_history : SharedInHistory
shared_in_history = record { refused = refused; only = only }
