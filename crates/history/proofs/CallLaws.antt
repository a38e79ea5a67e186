-- A call of a list as bytes: the ways through the code that measures it and makes it, test by test. Assumes nothing.
use mathlib.Core.Path.{◌≡◌, refl, sym, ap, ◌∙◌}
use mathlib.Core.Bool.{Bool, true, false, cond, ◌&&◌}
use mathlib.Core.List.{List, [], ◌∷◌}
use Prim.Native.Nat.{ℕ, zero, suc, ◌+◌, ◌≤◌}
use native.Mathlib.Omega.{arith}
use native.Mathlib.Numerals.{add-one}
use lib.ListN.{length, set}
use lib.Seq.{sets}
use lib.Dec.{eqb, leb}
use borrow.Author.Tests.{eq-eqb, ne_eqb, leb-true}
use Rattle.words.specs.Bytes.{le32}
use Rattle.words.proofs.ChoiceLaws.{cond_true, and_both}
use Rattle.memory.specs.Memory.{Memory, Outcome}
use Rattle.memory.specs.Undoing.{undo_of}
use Rattle.std.specs.Prelude.{Option, Some, None, Result}
use Rattle.std.specs.Option.{unwrap_or}
use Rattle.words.specs.declared.refusal.Refusal.{Refusal}
use Rattle.words.specs.Refusal.{answer_of}
use Rattle.player.specs.Outcome.{outcome_of, pixels_of}
use Rattle.player.specs.Calls.{play_outcome}
use Rattle.history.specs.Lists.{made}
use Rattle.history.specs.Run.{play_at, padded, call_length, call_at}
use Rattle.history.specs.Reported.{length_found}
use Rattle.history.specs.Stepped.{Stepped}

picked_some : (b : Bool) (x : ℕ) → (cond b x 0 ≡ 0 → ⊥) → (b ≡ true) × (cond b x 0 ≡ x)
picked_some true x s = (refl, refl)
picked_some false x s = absurd (s refl)

module _ (l : List ℕ) (at : ℕ) where
  -- the length of the play at this place, if one stands there
  abbrev whole : ℕ
  whole = 32 + padded (le32 l (at + 28))

  abbrev fits : Bool
  fits = leb (at + whole) (length l)

  abbrev fits_undo : Bool
  fits_undo = leb (at + 4) (length l)

  -- ---- the length of a call, by its first number

  play_length : le32 l at ≡ 1 → call_length l at ≡ cond fits whole 0
  unfolding call_length
  play_length e = cond_true (eqb (le32 l at) 1) _ _ (eq-eqb (le32 l at) 1 e)

  -- ---- where a call stands, it stands whole

  pub play_inside : (k : ℕ) → k ≡ le32 l at → k ≡ 1 → (call_length l at ≡ 0 → ⊥) → at + whole ≤ length l
  play_inside k e z s = leb-true (at + whole) (length l) (picked_some fits whole (λ q. s (play_length (sym e ∙ z) ∙ q))).0

  either_inside : (b c : Bool) → (cond b (cond fits whole 0) (cond (c && fits_undo) 4 0) ≡ 0 → ⊥)
      → at + cond b (cond fits whole 0) (cond (c && fits_undo) 4 0) ≤ length l
  either_inside true c s = let p = picked_some fits whole s in omega (arith, p.1, leb-true (at + whole) (length l) p.0)
  either_inside false c s =
      let p = picked_some (c && fits_undo) 4 s in omega (arith, p.1, leb-true (at + 4) (length l) (and_both c fits_undo p.0).1)

  pub call_inside : (n : ℕ) → n ≡ call_length l at → (n ≡ 0 → ⊥) → at + n ≤ length l
  unfolding call_length
  call_inside n e s = rw e (either_inside (eqb (le32 l at) 1) (eqb (le32 l at) 2) (λ q. s (e ∙ q)))

  -- ---- the ways through `call`

  module _ (o : Outcome) (w h : ℕ) (m : Memory) (k : ℕ) (e : k ≡ le32 l at) where
    pub call_undo_lem : (k ≡ 1 → ⊥) → o ≡ undo_of w h m → o ≡ made w h (call_at l at) m
    unfolding call_at
    call_undo_lem z q = rw (ne_eqb (le32 l at) 1 (λ p. z (e ∙ p))) q

    pub call_play_lem : k ≡ 1 → o ≡ play_outcome w h (play_at l at) m → o ≡ made w h (call_at l at) m
    unfolding call_at
    call_play_lem z q = rw (eq-eqb (le32 l at) 1 (sym e ∙ z)) q

-- ---- a length that was found, or none

pub none_found : (n : ℕ) → length_found n ≡ None → n ≡ 0
none_found zero e = refl
none_found (suc n) e = cc

pub some_found : (n m : ℕ) → length_found n ≡ Some m → (m ≡ n) × (n ≡ 0 → ⊥)
some_found zero m e = cc
some_found (suc n) m e = (cc, λ z. omega (arith, z))

unwrapped : (n : ℕ) → unwrap_or (length_found n) 0 ≡ n
unwrapped zero = refl
unwrapped (suc n) = refl

pub length_or_0 : (n x : ℕ) (found : Option ℕ) → found ≡ length_found n → x ≡ unwrap_or found 0 → x ≡ n
length_or_0 n x found e q = q ∙ ap (λ (f : Option ℕ). unwrap_or f 0) e ∙ unwrapped n

-- ---- `one`: the second place of two for its numbers, and what it leaves

pub stepped : (w h : ℕ) (l : List ℕ) (at : ℕ) (m after : Memory) (r : Result ℕ Refusal) (a : List ℕ) (k status number n : ℕ)
    → outcome_of r after ≡ made w h (call_at l at) m → status ≡ answer_of r → number ≡ pixels_of r → n ≡ call_length l at
    → Stepped w h l at m after k a (set (set a k status) (k + 1) number) (at + n)
stepped w h l at m after r a k status number n e es en q = record {
  after_is = ap (λ (o : Outcome). o.after) e;
  answers_are = (λ t. set (set a k (es t)) (add-one k t) (en t))
      ∙ ap (λ (o : Outcome). sets a k (o.status ∷ o.number ∷ [])) e;
  next_is = ap (λ (x : ℕ). at + x) q;
}
