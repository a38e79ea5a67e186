-- A list of calls as bytes, gone through call by call: first to see that it is well formed, then to make the calls. Assumes nothing.
use mathlib.Core.Path.{◌≡◌, refl, sym, ap, ◌∙◌}
use mathlib.Core.Bool.{Bool, true, false, not, ◌&&◌, true≢false}
use mathlib.Core.List.{List, ◌∷◌}
use Prim.Native.Nat.{ℕ, zero, suc, ◌+◌, ◌-◌, ◌*◌, ◌≤◌, ◌<◌}
use native.Mathlib.Nat.{not-suc-le-zero}
use native.Mathlib.Omega.{arith}
use lib.ListN.{length}
use lib.Seq.{sets}
use lib.Dec.{eqb}
use borrow.Author.Tests.{eq-eqb, ne_eqb}
use Rattle.memory.specs.Memory.{memory}
use Rattle.history.specs.History.{Call}
use Rattle.history.specs.Lists.{answers, memory_after}
use Rattle.history.specs.Run.{call_length, call_at, well_formed, calls_from, numbers_of}
use Rattle.history.specs.Stepped.{Stepped}

module _ (l : List ℕ) where
  formed_next : (at n : ℕ) → 0 < n → well_formed l at n ≡ (not (eqb (call_length l at) 0) && well_formed l (at + call_length l at) (n - 1))
  unfolding well_formed
  formed_next at zero h = absurd (not-suc-le-zero h)
  formed_next at (suc n) h =
      let k : n ≡ suc n - 1 = omega arith in ap (λ (k : ℕ). not (eqb (call_length l at) 0) && well_formed l (at + call_length l at) k) k

  -- ---- the ways through `well_formed`

  module _ (wanted : Bool) (at n : ℕ) (i : well_formed l at n ≡ wanted) where
    pub formed_end : n ≤ 0 → eqb at (length l) ≡ wanted
    unfolding well_formed
    formed_end h = let z : 0 ≡ n = omega arith in ap (well_formed l at) z ∙ i

    module _ (size : ℕ) (h : 0 < n) (e : size ≡ call_length l at) where
      pub formed_not : size ≡ 0 → false ≡ wanted
      formed_not z =
          (λ t. not (sym (eq-eqb (call_length l at) 0 (sym e ∙ z)) t) && well_formed l (at + call_length l at) (n - 1))
          ∙ sym (formed_next at n h) ∙ i

      pub formed_more : (size ≡ 0 → ⊥) → well_formed l (at + size) (n - 1) ≡ wanted
      formed_more z =
          (λ t. not (sym (ne_eqb (call_length l at) 0 (λ q. z (e ∙ q))) t) && well_formed l (at + e t) (n - 1)) ∙ sym (formed_next at n h) ∙ i

  stands : (at n : ℕ) → 0 < n → well_formed l at n ≡ true → call_length l at ≡ 0 → ⊥
  stands at n h f z = true≢false (sym (formed_not true at n f (call_length l at) h refl z))

  calls_next : (at n : ℕ) → 0 < n → calls_from l at n ≡ call_at l at ∷ calls_from l (at + call_length l at) (n - 1)
  unfolding calls_from
  calls_next at zero h = absurd (not-suc-le-zero h)
  calls_next at (suc n) h = let k : n ≡ suc n - 1 = omega arith in ap (λ (k : ℕ). call_at l at ∷ calls_from l (at + call_length l at) k) k

-- ---- the calls made by `all`: what is left of them, made on the memory as it stands, gives what is wanted

pub record Running (w h : ℕ) (l : List ℕ) (n : ℕ) (s₀ j₀ a₀ s j a : List ℕ) (u at i : ℕ) : Type 0 where
  pub below : i ≤ n
  pub formed : well_formed l at (n - i) ≡ true
  pub memory_is : memory_after w h (calls_from l at (n - i)) (memory s j u) ≡ memory_after w h (calls_from l 4 n) (memory s₀ j₀ 0)
  pub answers_are : sets a (i * 2) (numbers_of (answers w h (calls_from l at (n - i)) (memory s j u)))
      ≡ sets a₀ 0 (numbers_of (answers w h (calls_from l 4 n) (memory s₀ j₀ 0)))
  pub pixels : length s ≡ length s₀
  pub size : length j ≡ length j₀
  pub room : length a ≡ length a₀

module _ (w h : ℕ) (l : List ℕ) (n : ℕ) (s₀ j₀ a₀ : List ℕ) where
  module _ (s j a : List ℕ) (u at i : ℕ) (r : Running w h l n s₀ j₀ a₀ s j a u at i) where
    module _ (t : i < n) where
      pub running_stands : call_length l at ≡ 0 → ⊥
      running_stands = stands l at (n - i) (omega arith) r.formed

      fewer : n - (i + 1) ≡ n - i - 1
      fewer = omega arith

      -- this call and the rest are the calls that are left
      left_is : call_at l at ∷ calls_from l (at + call_length l at) (n - (i + 1)) ≡ calls_from l at (n - i)
      left_is =
          ap (λ (k : ℕ). call_at l at ∷ calls_from l (at + call_length l at) k) fewer ∙ sym (calls_next l at (n - i) (omega arith))

      pub running_turns : (s1 j1 a1 : List ℕ) (v next : ℕ) → Stepped w h l at (memory s j u) (memory s1 j1 v) (i * 2) a a1 next → length s1 ≡ length s
          → length j1 ≡ length j → length a1 ≡ length a → Running w h l n s₀ j₀ a₀ s1 j1 a1 v next (i + 1)
      unfolding memory_after answers numbers_of
      running_turns s1 j1 a1 v next q ls lj la =
          let k : (i + 1) * 2 ≡ suc (suc (i * 2)) = omega arith in
          record {
            below = omega arith;
            formed = (λ x. well_formed l (q.next_is x) (fewer x))
                ∙ formed_more l true at (n - i) r.formed (call_length l at) (omega arith) refl running_stands;
            memory_is = (λ x. memory_after w h (calls_from l (q.next_is x) (n - (i + 1))) (q.after_is x))
                ∙ ap (λ (ks : List Call). memory_after w h ks (memory s j u)) left_is ∙ r.memory_is;
            answers_are = (λ x. sets (q.answers_are x) (k x) (numbers_of (answers w h (calls_from l (q.next_is x) (n - (i + 1))) (q.after_is x))))
                ∙ ap (λ (ks : List Call). sets a (i * 2) (numbers_of (answers w h ks (memory s j u)))) left_is ∙ r.answers_are;
            pixels = ls ∙ r.pixels;
            size = lj ∙ r.size;
            room = la ∙ r.room;
          }

    module _ (t : n ≤ i) where
      none : n - i ≡ 0
      none = omega arith

      pub running_memory : memory s j u ≡ memory_after w h (calls_from l 4 n) (memory s₀ j₀ 0)
      unfolding memory_after calls_from
      running_memory = ap (λ (k : ℕ). memory_after w h (calls_from l at k) (memory s j u)) (sym none) ∙ r.memory_is

      pub running_answers : a ≡ sets a₀ 0 (numbers_of (answers w h (calls_from l 4 n) (memory s₀ j₀ 0)))
      unfolding answers calls_from numbers_of
      running_answers = ap (λ (k : ℕ). sets a (i * 2) (numbers_of (answers w h (calls_from l at k) (memory s j u)))) (sym none) ∙ r.answers_are
