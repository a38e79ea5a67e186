-- A row of pixels, each saved and drawn in its turn, and rows one after the other: what is left to do, done from here, gives what is
-- wanted. It holds for every rule of what a pixel becomes. Assumes nothing.
use mathlib.Core.Path.{◌≡◌, sym, ap, ◌∙◌}
use mathlib.Core.List.{List, [], ◌∷◌, ◌++◌}
use Prim.Native.Nat.{ℕ, suc, ◌+◌, ◌-◌, ◌*◌, ◌≤◌, ◌<◌}
use native.Mathlib.Omega.{arith}
use native.Mathlib.Nat.{mul-add}
use lib.ListN.{length, get_or, set, length-set}
use lib.Seq.{sets, length-sets}
use Rattle.words.proofs.ListLaws.{sets_append}
use Rattle.region.specs.Target.{Point, row, block}
use Rattle.region.proofs.TargetLaws.{length_row}
use Rattle.journal.specs.Drawing.{pixel_index, Paint, dot, drawn}
use Rattle.journal.specs.Records.{stride, entry_bytes, bytes_of, saved, DrawnAndSaved}
use Rattle.journal.proofs.RecordLaws.{length_bytes, bytes_append, length_drawn, length_saved, drawn_append, saved_append}

-- surface s and journal j, with the points ps still to draw and their records from i on, come to what s₀ and j₀ come to with ps₀ and i₀
pub record Leads (w : ℕ) (f : Paint) (ps₀ : List Point) (i₀ : ℕ) (s₀ j₀ : List ℕ) (ps : List Point) (i : ℕ) (s j : List ℕ) : Type 0 where
  pub surface : drawn w f ps s ≡ drawn w f ps₀ s₀
  pub journal : sets j (i * stride) (bytes_of (saved w f ps s)) ≡ sets j₀ (i₀ * stride) (bytes_of (saved w f ps₀ s₀))
  pub pixels : length s ≡ length s₀
  pub size : length j ≡ length j₀

-- one pixel
module _ (w : ℕ) (f : Paint) (i₀ : ℕ) (ps₀ ps : List Point) (s₀ j₀ s j : List ℕ) (x y i : ℕ) where
  pub leads_one : (k v : ℕ) (j1 : List ℕ) (i1 : ℕ) → Leads w f ps₀ i₀ s₀ j₀ (record { x = x; y = y } ∷ ps) i s j → k ≡ pixel_index w x y
      → v ≡ f (get_or s k 0) x y → j1 ≡ sets j (i * stride) (entry_bytes x y (get_or s k 0)) → i1 ≡ i + 1 → Leads w f ps₀ i₀ s₀ j₀ ps i1 (set s k v) j1
  unfolding drawn saved bytes_of
  leads_one k v j1 i1 l ek ev ej ei =
      let e : set s k v ≡ dot w f x y s = ap (set s k) ev ∙ ap (λ (n : ℕ). set s n (f (get_or s n 0) x y)) ek in
      let t : List ℕ = entry_bytes x y (get_or s (pixel_index w x y) 0) in
      record {
        surface = ap (drawn w f ps) e ∙ l.surface;
        journal = (λ m. sets ((ej ∙ ap (λ (n : ℕ). sets j (i * stride) (entry_bytes x y (get_or s n 0))) ek) m) (i1 * stride) (bytes_of (saved w f ps (e m))))
            ∙ sym (sets_append j (i * stride) (i1 * stride) t (bytes_of (saved w f ps (dot w f x y s))) (omega arith)) ∙ l.journal;
        pixels = length-set s k v ∙ l.pixels;
        size = ap length ej ∙ length-sets j (i * stride) (entry_bytes x y (get_or s k 0)) ∙ l.size;
      }

-- several pixels
pub leads_some : (w : ℕ) (f : Paint) (i₀ : ℕ) (ps₀ qs ps : List Point) (s₀ j₀ s j s1 j1 : List ℕ) (i i1 : ℕ)
    → Leads w f ps₀ i₀ s₀ j₀ (qs ++ ps) i s j → s1 ≡ drawn w f qs s → j1 ≡ sets j (i * stride) (bytes_of (saved w f qs s)) → i1 ≡ i + length qs
    → Leads w f ps₀ i₀ s₀ j₀ ps i1 s1 j1
leads_some w f i₀ ps₀ qs ps s₀ j₀ s j s1 j1 i i1 l es ej ei =
    let n : length (bytes_of (saved w f qs s)) ≡ length qs * stride = length_bytes (saved w f qs s) ∙ ap (λ (k : ℕ). k * stride) (length_saved w f qs s) in
    record {
      surface = ap (drawn w f ps) es ∙ sym (drawn_append w f qs ps s) ∙ l.surface;
      journal = (λ t. sets (ej t) (i1 * stride) (bytes_of (saved w f ps (es t))))
          ∙ sym (sets_append j (i * stride) (i1 * stride) (bytes_of (saved w f qs s)) (bytes_of (saved w f ps (drawn w f qs s))) (omega (arith, n)))
          ∙ ap (sets j (i * stride)) (sym (ap bytes_of (saved_append w f qs ps s) ∙ bytes_append (saved w f qs s) (saved w f ps (drawn w f qs s))))
          ∙ l.journal;
      pixels = ap length es ∙ length_drawn w f qs s ∙ l.pixels;
      size = ap length ej ∙ length-sets j (i * stride) (bytes_of (saved w f qs s)) ∙ l.size;
    }

-- ---- the loop over a row

next : (n i : ℕ) → i < n → n - i ≡ suc (n - (i + 1))
next n i h = omega arith

none : (n i : ℕ) → n ≤ i → n - i ≡ 0
none n i h = omega arith

row_next : (x n y i : ℕ) → i < n → row (x + i) (n - i) y ≡ record { x = x + i; y = y } ∷ row (x + (i + 1)) (n - (i + 1)) y
unfolding row
row_next x n y i h =
    ap (λ (m : ℕ). row (x + i) m y) (next n i h) ∙ ap (λ (m : ℕ). record { x = x + i; y = y } ∷ row m (n - (i + 1)) y) (omega arith)

row_last : (x n y i : ℕ) → n ≤ i → row (x + i) (n - i) y ≡ []
unfolding row
row_last x n y i h = ap (λ (m : ℕ). row (x + i) m y) (none n i h)

pub record Row (w : ℕ) (f : Paint) (at x n y : ℕ) (s₀ j₀ s j : List ℕ) (i : ℕ) : Type 0 where
  pub below : i ≤ n
  pub leads : Leads w f (row x n y) at s₀ j₀ (row (x + i) (n - i) y) (at + i) s j

module _ (w : ℕ) (f : Paint) (at x n y : ℕ) (s₀ j₀ : List ℕ) where
  -- a turn of the code, which finds the pixel at y * w + x + i
  pub row_turns : (s j j1 : List ℕ) (i v : ℕ) → Row w f at x n y s₀ j₀ s j i → i < n → v ≡ f (get_or s (y * w + x + i) 0) (x + i) y
      → j1 ≡ sets j ((at + i) * stride) (entry_bytes (x + i) y (get_or s (y * w + x + i) 0))
      → Row w f at x n y s₀ j₀ (set s (y * w + x + i) v) j1 (i + 1)
  row_turns s j j1 i v r h ev ej = record {
    below = omega arith;
    leads = leads_one w f at (row x n y) (row (x + (i + 1)) (n - (i + 1)) y) s₀ j₀ s j (x + i) y (at + i) (y * w + x + i) v j1 (at + (i + 1))
        (rw (row_next x n y i h) at r.leads) (omega arith) ev ej (omega arith);
  }

  pub row_ends : (s j : List ℕ) (i : ℕ) → Row w f at x n y s₀ j₀ s j i → n ≤ i
      → DrawnAndSaved w at f (row x n y) s₀ j₀ s j
  unfolding drawn saved bytes_of
  row_ends s j i r h =
      let l : Leads w f (row x n y) at s₀ j₀ [] (at + i) s j = rw (row_last x n y i h) at r.leads in
      (l.surface, l.journal)

-- ---- the loop over the rows

block_next : (x n y m i : ℕ) → i < m → block x n (y + i) (m - i) ≡ row x n (y + i) ++ block x n (y + (i + 1)) (m - (i + 1))
unfolding block
block_next x n y m i h = ap (block x n (y + i)) (next m i h) ∙ ap (λ (k : ℕ). row x n (y + i) ++ block x n k (m - (i + 1))) (omega arith)

block_last : (x n y m i : ℕ) → m ≤ i → block x n (y + i) (m - i) ≡ []
unfolding block
block_last x n y m i h = ap (block x n (y + i)) (none m i h)

pub record Rows (w : ℕ) (f : Paint) (at x n y m : ℕ) (s₀ j₀ s j : List ℕ) (k i : ℕ) : Type 0 where
  pub below : i ≤ m
  pub next_record : k ≡ at + n * i
  pub leads : Leads w f (block x n y m) at s₀ j₀ (block x n (y + i) (m - i)) k s j

module _ (w : ℕ) (f : Paint) (at x n y m : ℕ) (s₀ j₀ : List ℕ) where
  pub rows_turn : (s j s1 j1 : List ℕ) (k i : ℕ) → Rows w f at x n y m s₀ j₀ s j k i → i < m → s1 ≡ drawn w f (row x n (y + i)) s
      → j1 ≡ sets j (k * stride) (bytes_of (saved w f (row x n (y + i)) s)) → Rows w f at x n y m s₀ j₀ s1 j1 (k + n) (i + 1)
  rows_turn s j s1 j1 k i r h es ej = record {
    below = omega arith;
    next_record = omega (arith, r.next_record, mul-add n i 1);
    leads = leads_some w f at (block x n y m) (row x n (y + i)) (block x n (y + (i + 1)) (m - (i + 1))) s₀ j₀ s j s1 j1 k (k + n)
        (rw (block_next x n y m i h) at r.leads) es ej (ap (λ (a : ℕ). k + a) (sym (length_row x n (y + i))));
  }

  pub rows_end : (s j : List ℕ) (k i : ℕ) → Rows w f at x n y m s₀ j₀ s j k i → m ≤ i
      → DrawnAndSaved w at f (block x n y m) s₀ j₀ s j
  unfolding drawn saved bytes_of
  rows_end s j k i r h =
      let l : Leads w f (block x n y m) at s₀ j₀ [] k s j = rw (block_last x n y m i h) at r.leads in
      (l.surface, l.journal)
