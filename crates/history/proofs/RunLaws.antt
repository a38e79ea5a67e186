-- The ways through `run`, test by test as the code makes them; at the end condition 3 makes the history's answers of what was answered.
-- Assumes nothing.
use mathlib.Core.Path.{◌≡◌, refl, sym, ap, ◌∙◌}
use mathlib.Core.Bool.{Bool, true, false, not}
use mathlib.Core.List.{List, []}
use Prim.Native.Nat.{ℕ, zero, suc, ◌*◌, ◌≤◌, ◌<◌}
use native.Mathlib.Omega.{arith}
use lib.ListN.{length}
use lib.Seq.{sets}
use lib.Dec.{ltb}
use borrow.Author.Tests.{lt-ltb, le-ltb}
use Rattle.words.specs.Bytes.{le32}
use Rattle.words.specs.Status.{given, or_else}
use Rattle.memory.specs.Memory.{Memory, memory, limits, records}
use Rattle.history.specs.History.{Answered, history}
use Rattle.history.specs.Lists.{answers, memory_after, Agree, Words32}
use Rattle.history.specs.Run.{well_formed, calls_from, calls_in, calls_of, numbers_of, ran, run_status, settle_run, run_of}
use Rattle.history.proofs.Condition3.{condition3}

-- a first status that is one stands
first_stands : (b later : ℕ) → (b ≡ 0 → ⊥) → or_else b later ≡ b
first_stands zero later z = absurd (z refl)
first_stands (suc b) later z = refl

module _ (w h : ℕ) (s j l a : List ℕ) where
  by_status : (k : ℕ) → run_status w h s j l (length a) ≡ k → settle_run k w h s j l a ≡ run_of w h s j l a
  unfolding run_of
  by_status k q = ap (λ (k : ℕ). settle_run k w h s j l a) (sym q)

  refuses : (k : ℕ) → (k ≡ 0 → ⊥) → run_status w h s j l (length a) ≡ k → ran k 0 0 s j a ≡ run_of w h s j l a
  refuses zero z q = absurd (z refl)
  refuses (suc k) z q = by_status (suc k) q

  -- what a run of n calls tests behind 1 and 2
  abbrev later : (malformed : Bool) (n : ℕ) → ℕ
  later malformed n = given 29 malformed (given 30 (ltb (length a) (n * 2)) 0)

  module _ (b : ℕ) (eb : b ≡ limits w h (length s) (length j) 0) where
    pub run_limits : (b ≡ 0 → ⊥) → ran b 0 0 s j a ≡ run_of w h s j l a
    unfolding run_status
    run_limits z =
        let k : ℕ = later (not (well_formed l 4 (calls_in l))) (calls_in l) in
        refuses b z (ap (λ (b : ℕ). or_else b k) (sym eb) ∙ first_stands b k z)

    module _ (z : b ≡ 0) (n : ℕ) (en : n ≡ le32 l 0) (f : Bool) (ef : f ≡ well_formed l 4 n) where
      status_is : (g : Bool) → not f ≡ g → run_status w h s j l (length a) ≡ later g n
      unfolding run_status
      status_is g e =
          let m : not (well_formed l 4 (calls_in l)) ≡ g = ap (λ (n : ℕ). not (well_formed l 4 n)) (sym en) ∙ ap not (sym ef) ∙ e in
          λ i. or_else ((sym eb ∙ z) i) (later (m i) (sym en i))

      pub run_malformed : not f ≡ true → ran 29 0 0 s j a ≡ run_of w h s j l a
      run_malformed g = refuses 29 (λ z. omega arith) (status_is true g)

      module _ (g : not f ≡ false) where
        pub run_full : length a < n * 2 → ran 30 0 0 s j a ≡ run_of w h s j l a
        run_full t =
            refuses 30 (λ z. omega arith) (status_is false g ∙ ap (λ (x : Bool). given 30 x 0) (lt-ltb (length a) (n * 2) t))

        pub run_done : n * 2 ≤ length a → Words32 s → (s1 j1 a1 : List ℕ) (u : ℕ) → memory s1 j1 u ≡ memory_after w h (calls_from l 4 n) (memory s j 0)
            → a1 ≡ sets a 0 (numbers_of (answers w h (calls_from l 4 n) (memory s j 0)))
            → ran 0 n u s1 j1 a1 ≡ run_of w h s j l a
        run_done t p s1 j1 a1 u em ea =
            let c : Agree w h (calls_of l) (memory s j 0) (history s (records (memory s j 0)) []) = condition3 w h s j (calls_of l) p (sym eb ∙ z) in
            let m : memory s1 j1 u ≡ memory_after w h (calls_of l) (memory s j 0) = em ∙ ap (λ (n : ℕ). memory_after w h (calls_from l 4 n) (memory s j 0)) en in
            let q = ap (λ (m : Memory). m.surface) m ∙ c.surface in
            let v = ap (λ (m : Memory). m.used) m ∙ c.used in
            let o = ea ∙ ap (λ (n : ℕ). sets a 0 (numbers_of (answers w h (calls_from l 4 n) (memory s j 0)))) en
            ∙ ap (λ (x : List Answered). sets a 0 (numbers_of x)) c.answer in
            (λ i. ran 0 (en i) (v i) (q i) (m i).journal (o i))
            ∙ by_status 0 (status_is false g ∙ ap (λ (x : Bool). given 30 x 0) (le-ltb (length a) (n * 2) t))
