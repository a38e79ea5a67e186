-- The loops over a journal's records: one that tests them, first to last, and one that restores their pixels, last to first. What is
-- left to do, done from here, gives what is wanted. Assumes nothing.
use mathlib.Core.Path.{◌≡◌, refl, sym, ap, ◌∙◌}
use mathlib.Core.Bool.{true, false, ◌||◌}
use mathlib.Core.List.{List, [], ◌∷◌, ◌++◌}
use Prim.Native.Nat.{ℕ, zero, suc, ◌+◌, ◌-◌, ◌*◌, ◌≤◌, ◌<◌}
use native.Mathlib.Nat.{add-zero, mul_comm, not-suc-le-zero}
use native.Mathlib.Omega.{arith}
use lib.Arith.{digits_lt}
use lib.Dec.{leb}
use lib.ListN.{length, set, length-set}
use borrow.Author.Tests.{leb-false}
use Rattle.words.proofs.ChoiceLaws.{or_by_first, or_by_second, or_none}
use Rattle.journal.specs.Drawing.{pixel_index}
use Rattle.journal.specs.Records.{Entry, entry_at, entries_at}
use Rattle.journal.specs.Restoring.{restored, any_off}

-- ---- testing

-- the records from i on are still to test
pub record Tested (w h : ℕ) (j : List ℕ) (from n i : ℕ) : Type 0 where
  pub below : i ≤ from + n
  pub same : any_off w h (entries_at j i (from + n - i)) ≡ any_off w h (entries_at j from n)

module _ (w h : ℕ) (j : List ℕ) (from n : ℕ) where
  module _ (i : ℕ) (p : Entry) (r : Tested w h j from n i) (l : i < from + n) (e : p ≡ entry_at j i) where
    record_decides : any_off w h (entries_at j from n) ≡ (leb w p.first || leb h p.second || any_off w h (entries_at j (i + 1) (from + n - (i + 1))))
    unfolding any_off entries_at
    record_decides =
        let k : from + n - i ≡ suc (from + n - (i + 1)) = omega arith in
        let m : suc i ≡ i + 1 = omega arith in
        sym r.same ∙ ap (λ (k : ℕ). any_off w h (entries_at j i k)) k
        ∙ (λ t. any_off w h (sym e t ∷ entries_at j (m t) (from + n - (i + 1))))

    pub tested_off : (leb w p.first || leb h p.second) ≡ true → true ≡ any_off w h (entries_at j from n)
    tested_off a = sym (record_decides ∙ or_by_first _ _ a)

    pub tested_one : (leb w p.first || leb h p.second) ≡ false → Tested w h j from n (i + 1)
    tested_one a = record { below = omega arith; same = sym (record_decides ∙ or_by_second _ _ a refl) }

  pub tested_all : (i : ℕ) → Tested w h j from n i → from + n ≤ i → false ≡ any_off w h (entries_at j from n)
  unfolding any_off entries_at
  tested_all i r l =
      let e : 0 ≡ from + n - i = omega arith in
      ap (λ (k : ℕ). any_off w h (entries_at j i k)) e ∙ r.same

-- no record lies off the surface: not the first one, and none of the rest
first_on : (w h : ℕ) (e : Entry) (es : List Entry) → any_off w h (e ∷ es) ≡ false
    → ((e.first < w) × (e.second < h)) × (any_off w h es ≡ false)
unfolding any_off
first_on w h e es q =
    let o = or_none _ (any_off w h es) q in
    let p = or_none (leb w e.first) (leb h e.second) o.0 in
    ((leb-false w e.first p.0, leb-false h e.second p.1), o.1)

-- so record k of n does not
pub each_on : (w h : ℕ) (j : List ℕ) (from n k : ℕ) → any_off w h (entries_at j from n) ≡ false → k < n
    → ((entry_at j (from + k)).first < w) × ((entry_at j (from + k)).second < h)
unfolding entries_at
each_on w h j from zero k e l = absurd (not-suc-le-zero l)
each_on w h j from (suc n) zero e l = rw (add-zero from) (first_on w h (entry_at j from) (entries_at j (suc from) n) e).0
each_on w h j from (suc n) (suc k) e l =
    let m : from + suc k ≡ suc from + k = omega arith in
    rw m (each_on w h j (suc from) n k (first_on w h (entry_at j from) (entries_at j (suc from) n) e).1 (omega arith))

-- ---- restoring

entries_last : (j : List ℕ) (from n : ℕ) → entries_at j from (suc n) ≡ entries_at j from n ++ (entry_at j (from + n) ∷ [])
unfolding entries_at
entries_last j from zero = ap (λ (k : ℕ). entry_at j k ∷ []) (sym (add-zero from))
entries_last j from (suc n) =
    let m : suc from + n ≡ from + suc n = omega arith in
    ap (λ (l : List Entry). entry_at j from ∷ l)
    (entries_last j (suc from) n ∙ ap (λ (k : ℕ). entries_at j (suc from) n ++ (entry_at j k ∷ [])) m)

restored_last : (w : ℕ) (es : List Entry) (e : Entry) (s : List ℕ)
    → restored w (es ++ (e ∷ [])) s ≡ restored w es (set s (pixel_index w e.first e.second) e.third)
unfolding restored
restored_last w [] e s = refl
restored_last w (f ∷ es) e s = ap (λ (l : List ℕ). set l (pixel_index w f.first f.second) f.third) (restored_last w es e s)

-- the records below i are still to restore
pub record Restoring (w : ℕ) (j : List ℕ) (from n : ℕ) (s₀ s : List ℕ) (i : ℕ) : Type 0 where
  pub within : (from ≤ i) × (i ≤ from + n)
  pub same : restored w (entries_at j from (i - from)) s ≡ restored w (entries_at j from n) s₀
  pub pixels : length s ≡ length s₀

module _ (w : ℕ) (j : List ℕ) (from n : ℕ) (s₀ : List ℕ) where
  module _ (s : List ℕ) (i : ℕ) (r : Restoring w j from n s₀ s i) where
    module _ (p : Entry) (l : from < i) (e : p ≡ entry_at j (i - 1)) where
      -- the pixel that a turn restores is on the surface
      pub restoring_on : (h : ℕ) → length s₀ ≡ w * h → any_off w h (entries_at j from n) ≡ false → pixel_index w p.first p.second < length s
      restoring_on h a o =
          let m : from + (i - 1 - from) ≡ i - 1 = omega arith in
          let on = rw m at (each_on w h j from n (i - 1 - from) o (omega arith)) in
          let q : pixel_index w p.first p.second < h * w = rw e (digits_lt on.1 on.0) in
          omega (arith, mul_comm w h)

      pub restoring_one : Restoring w j from n s₀ (set s (pixel_index w p.first p.second) p.third) (i - 1)
      restoring_one =
          let k : i - from ≡ suc (i - 1 - from) = omega arith in
          let m : from + (i - 1 - from) ≡ i - 1 = omega arith in
          let rest : List Entry = entries_at j from (i - 1 - from) in
          let parts : entries_at j from (i - from) ≡ rest ++ (p ∷ []) =
          ap (entries_at j from) k ∙ entries_last j from (i - 1 - from) ∙ (λ t. rest ++ ((ap (entry_at j) m ∙ sym e) t ∷ [])) in
          record {
            within = omega arith;
            same = sym (restored_last w rest p s) ∙ ap (λ (es : List Entry). restored w es s) (sym parts) ∙ r.same;
            pixels = length-set s (pixel_index w p.first p.second) p.third ∙ r.pixels;
          }

    pub restoring_all : i ≤ from → s ≡ restored w (entries_at j from n) s₀
    unfolding restored entries_at
    restoring_all l =
        let e : 0 ≡ i - from = omega arith in
        ap (λ (k : ℕ). restored w (entries_at j from k) s) e ∙ r.same
