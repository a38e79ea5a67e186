-- The ways through `undo`, test by test as the code makes them: each law's premises are what the code knows there. Assumes nothing.
use mathlib.Core.Path.{◌≡◌, refl, sym, ap, ◌∙◌}
use mathlib.Core.Bool.{Bool, true, false, not, ◌||◌}
use mathlib.Core.List.{List}
use Prim.Native.Nat.{ℕ, zero, suc, ◌+◌, ◌-◌, ◌*◌, ◌≤◌, ◌<◌}
use native.Mathlib.Omega.{arith}
use lib.ListN.{length}
use lib.Dec.{eqb, ltb}
use borrow.Author.Tests.{lt-ltb, le-ltb, eq-eqb, ne_eqb}
use Rattle.words.specs.Status.{given, or_else}
use Rattle.words.proofs.ChoiceLaws.{cond_true, cond_false, or_by_first}
use Rattle.journal.specs.Records.{Entry, mark, stride, entry_at, entries_at}
use Rattle.journal.specs.Restoring.{restored, any_off}
use Rattle.memory.specs.Memory.{Memory, memory, Outcome, outcome, settle, limits}
use Rattle.memory.specs.Undoing.{named, bad_top, undone, undo_status, undo_of}
use Rattle.memory.proofs.LimitLaws.{Passed, passed}

by_status : (w h : ℕ) (m : Memory) (k : ℕ) → undo_status w h m ≡ k → settle k m (outcome 0 (named m) (undone w m)) ≡ undo_of w h m
unfolding undo_of
by_status w h m k q = ap (λ (k : ℕ). settle k m (outcome 0 (named m) (undone w m))) (sym q)

-- a first status that is one stands
settled : (b later : ℕ) (m : Memory) (good : Outcome) → (b ≡ 0 → ⊥) → outcome b 0 m ≡ settle (or_else b later) m good
settled zero later m good t = absurd (t refl)
settled (suc b) later m good t = refl

module _ (w h : ℕ) (s j : List ℕ) (u : ℕ) where
  -- what an undo tests behind 1 and 2
  abbrev later : ℕ
  later = given 15 (eqb u 0) (given 16 (bad_top w h (memory s j u)) 0)

  refuses : (k : ℕ) → undo_status w h (memory s j u) ≡ suc k → outcome (suc k) 0 (memory s j u) ≡ undo_of w h (memory s j u)
  refuses k q = by_status w h (memory s j u) (suc k) q

  pub undo_limits : {b : ℕ} → b ≡ limits w h (length s) (length j) u → (b ≡ 0 → ⊥) → outcome b 0 (memory s j u) ≡ undo_of w h (memory s j u)
  undo_limits {b} e t =
      settled b later (memory s j u) _ t
      ∙ by_status w h (memory s j u) (or_else b later) (ap (λ (k : ℕ). or_else k later) (sym e))

  -- the memory passes
  module _ (z : 0 ≡ limits w h (length s) (length j) u) where
    used_decides : undo_status w h (memory s j u) ≡ later
    used_decides = ap (λ (k : ℕ). or_else k later) (sym z)

    limits_passed : Passed w h (length s) (length j) u
    limits_passed = passed w h (length s) (length j) u (sym z)

    pub surface_whole : length s ≡ w * h
    surface_whole = limits_passed.pixels_are

    pub named_inside : {n : ℕ} → n ≤ u - 1 → (u - 1 - n + n) * stride ≤ length j
    named_inside l = omega (arith, limits_passed.enough)

    pub undo_empty : u ≡ 0 → outcome 15 0 (memory s j u) ≡ undo_of w h (memory s j u)
    undo_empty t = refuses 14 (used_decides ∙ cond_true _ _ _ (eq-eqb u 0 t))

    -- a record is in use
    module _ (a : u ≡ 0 → ⊥) where
      pub last_inside : (u - 1 + 1) * stride ≤ length j
      last_inside = omega (arith, limits_passed.enough)

      top_decides : (t : Bool) → bad_top w h (memory s j u) ≡ t → undo_status w h (memory s j u) ≡ given 16 t 0
      top_decides t q = used_decides ∙ cond_false _ _ _ (ne_eqb u 0 a) ∙ ap (λ (t : Bool). given 16 t 0) q

      top_bad : bad_top w h (memory s j u) ≡ true → outcome 16 0 (memory s j u) ≡ undo_of w h (memory s j u)
      top_bad q = refuses 15 (top_decides true q)

      -- of which e is the last
      module _ {e : Entry} (top : e ≡ entry_at j (u - 1)) where
        first_is : e.first ≡ (entry_at j (u - 1)).first
        first_is = ap (λ (x : Entry). x.first) top

        second_is : e.second ≡ (entry_at j (u - 1)).second
        second_is = ap (λ (x : Entry). x.second) top

        pub undo_unclosed : (e.first ≡ mark → ⊥) → outcome 16 0 (memory s j u) ≡ undo_of w h (memory s j u)
        unfolding bad_top
        undo_unclosed t = top_bad (or_by_first _ _ (or_by_first _ _ (ap not (ne_eqb _ mark (λ q. t (first_is ∙ q))))))

        -- and a closing record
        module _ (c : e.first ≡ mark) where
          count_decides : (t : Bool) → ltb (u - 1) e.second ≡ t
              → bad_top w h (memory s j u) ≡ (t || any_off w h (entries_at j (u - 1 - e.second) e.second))
          unfolding bad_top
          count_decides t q =
              (λ i. not (eq-eqb _ mark (sym first_is ∙ c) i) || ltb (u - 1) (sym second_is i)
              || any_off w h (entries_at j (u - 1 - sym second_is i) (sym second_is i)))
              ∙ ap (λ (t : Bool). t || any_off w h (entries_at j (u - 1 - e.second) e.second)) q

          pub undo_long : u - 1 < e.second → outcome 16 0 (memory s j u) ≡ undo_of w h (memory s j u)
          undo_long t = top_bad (count_decides true (lt-ltb (u - 1) e.second t))

          -- whose records stand before it
          module _ (l : e.second ≤ u - 1) {o : Bool} (eo : o ≡ any_off w h (entries_at j (u - 1 - e.second) e.second)) where
            off_decides : bad_top w h (memory s j u) ≡ o
            off_decides = count_decides false (le-ltb (u - 1) e.second l) ∙ sym eo

            pub undo_off : o ≡ true → outcome 16 0 (memory s j u) ≡ undo_of w h (memory s j u)
            undo_off t = top_bad (off_decides ∙ t)

            pub undo_done : {s1 : List ℕ} → o ≡ false → s1 ≡ restored w (entries_at j (u - 1 - e.second) e.second) s
                → outcome 0 e.second (memory s1 j (u - 1 - e.second)) ≡ undo_of w h (memory s j u)
            unfolding undone
            undo_done p es =
                ap (λ (x : List ℕ). outcome 0 e.second (memory x j (u - 1 - e.second))) es
                ∙ ap (λ (k : ℕ). outcome 0 k (memory (restored w (entries_at j (u - 1 - k) k) s) j (u - 1 - k))) second_is
                ∙ by_status w h (memory s j u) 0 (top_decides false (off_decides ∙ p))
