-- Points drawn, pixel by pixel: a point of the list gets what the rule makes of its old pixel, every other pixel stays, and each record
-- holds the pixel of the surface that the drawing began with, because in an ascending list no point comes twice. A rectangle's points
-- ascend. Assumes nothing.
use mathlib.Core.Path.{◌≡◌, refl, sym, ap, ◌∙◌, subst}
use mathlib.Core.Logic.{◌≢◌, ⊎_elim}
use mathlib.Core.List.Memᴰ
use mathlib.Core.List.{List, [], ◌∷◌, ◌++◌, map, Memᴰ}
use Prim.Native.Nat.{ℕ, zero, suc, ◌+◌, ◌*◌, ◌/◌, ◌%◌, ◌≤◌, ◌<◌}
use native.Mathlib.Nat.{suc-mul, mul-le-mul_right, eq-or-lt_of_le}
use native.Mathlib.Omega.{arith}
use lib.Arith.{digits_div, digits_mod}
use lib.ListN.{length, get_or, set, length-set}
use lib.Seq.{get_or-set_same, get_or-set_other, set_comm}
use Rattle.region.specs.Target.{Point, row, block}
use Rattle.journal.specs.All.{All}
use Rattle.journal.specs.Drawing.{pixel_index, Paint, dot, drawn}
use Rattle.journal.specs.Points.{After, Ascends, Holds}
use Rattle.journal.specs.Records.{Entry, entry, saved}

abbrev at : ℕ → Point → ℕ
at w p = pixel_index w p.x p.y

-- none of these points stands at pixel k
abbrev pub Off : ℕ → ℕ → List Point → Type 0
Off w k ps = All (λ (p : Point). k ≢ at w p) ps

pub all_append : {A : Type 0} (P : A → Type 0) (l r : List A) → All P l → All P r → All P (l ++ r)
all_append P [] r a b = b
all_append P (x ∷ l) r a b = (a.0, all_append P l r a.1 b)

pub all_held : {A : Type 0} (P : A → Type 0) (l : List A) (x : A) → All P l → Memᴰ x l → P x
all_held {A = A} P [] x a m = elim m [ ]
all_held P (y ∷ l) x a (Memᴰ.head e) = subst P (sym e) a.0
all_held P (y ∷ l) x a (Memᴰ.tail m) = all_held P l x a.1 m

-- ---- every list

module _ (w : ℕ) (f : Paint) where
  saved_set : (ps : List Point) (s : List ℕ) (k v : ℕ) → After w k ps → saved w f ps (set s k v) ≡ saved w f ps s
  unfolding saved
  saved_set [] s k v a = refl
  saved_set (p ∷ ps) s k v a =
      let i : ℕ = at w p in
      let ne : i ≢ k = λ e. omega arith in
      let g : get_or (set s k v) i 0 ≡ get_or s i 0 = get_or-set_other s k i v 0 ne in
      let d : dot w f p.x p.y (set s k v) ≡ set (dot w f p.x p.y s) k v =
      ap (λ (o : ℕ). set (set s k v) i (f o p.x p.y)) g ∙ set_comm s k i v (f (get_or s i 0) p.x p.y) (λ e. ne (sym e)) in
      (λ t. entry p.x p.y (g t) ∷ saved w f ps (d t))
      ∙ ap (λ (l : List Entry). entry p.x p.y (get_or s i 0) ∷ l) (saved_set ps (dot w f p.x p.y s) k v a.1)

  pub saved_first : (ps : List Point) (s : List ℕ) → Ascends w ps
      → saved w f ps s ≡ map (λ (p : Point). entry p.x p.y (get_or s (pixel_index w p.x p.y) 0)) ps
  unfolding saved
  saved_first [] s a = refl
  saved_first (p ∷ ps) s a =
      ap (λ (l : List Entry). entry p.x p.y (get_or s (at w p) 0) ∷ l)
      (saved_set ps s (at w p) (f (get_or s (at w p) 0) p.x p.y) a.0 ∙ saved_first ps s a.1)

  pub drawn_off : (ps : List Point) (s : List ℕ) (k : ℕ) → Off w k ps → get_or (drawn w f ps s) k 0 ≡ get_or s k 0
  unfolding drawn
  drawn_off [] s k a = refl
  drawn_off (p ∷ ps) s k a = drawn_off ps (dot w f p.x p.y s) k a.1 ∙ get_or-set_other s (at w p) k _ 0 a.0

  after_off : (k : ℕ) (ps : List Point) → After w k ps → Off w k ps
  after_off k [] a = tt
  after_off k (p ∷ ps) a = ((λ e. omega arith), after_off k ps a.1)

  pub drawn_at : (ps : List Point) (s : List ℕ) (x y : ℕ) → Ascends w ps → Holds ps x y → pixel_index w x y < length s
      → get_or (drawn w f ps s) (pixel_index w x y) 0 ≡ f (get_or s (pixel_index w x y) 0) x y
  unfolding drawn
  drawn_at [] s x y a m l = elim m [ ]
  drawn_at (p ∷ ps) s x y a (Memᴰ.head e) l =
      let i : ℕ = pixel_index w x y in
      rw (← e) (drawn_off ps (dot w f x y s) i (after_off i ps (rw (← e) at a.0)) ∙ get_or-set_same s i _ 0 l)
  drawn_at (p ∷ ps) s x y a (Memᴰ.tail m) l =
      let i : ℕ = pixel_index w x y in
      let behind : at w p < i = all_held (λ (q : Point). at w p < at w q) ps _ a.0 m in
      let d : length (dot w f p.x p.y s) ≡ length s = length-set s (at w p) _ in
      drawn_at ps (dot w f p.x p.y s) x y a.1 m (omega arith)
      ∙ ap (λ (o : ℕ). f o x y) (get_or-set_other s (at w p) i _ 0 (λ e. omega arith))

-- ---- the points of a rectangle

module _ (P : Point → Type 0) where
  pub all_row : (x n y : ℕ) → ((k : ℕ) → x ≤ k → k < x + n → P (record { x = k; y = y })) → All P (row x n y)
  unfolding row
  all_row x zero y h = tt
  all_row x (suc n) y h = (h x (omega arith) (omega arith), all_row (suc x) n y (λ k a b. h k (omega arith) (omega arith)))

  pub all_block : (x n y m : ℕ) → ((k j : ℕ) → x ≤ k → k < x + n → y ≤ j → j < y + m → P (record { x = k; y = j })) → All P (block x n y m)
  unfolding block
  all_block x n y zero h = tt
  all_block x n y (suc m) h =
      all_append P (row x n y) (block x n (suc y) m) (all_row x n y (λ k a b. h k y a b (omega arith) (omega arith)))
      (all_block x n (suc y) m (λ k j a b c d. h k j a b (omega arith) (omega arith)))

module _ (w : ℕ) where
  pub ascends_append : (l r : List Point) → Ascends w l → Ascends w r → All (λ (p : Point). After w (at w p) r) l → Ascends w (l ++ r)
  ascends_append [] r a b c = b
  ascends_append (p ∷ l) r a b c = (all_append (λ (q : Point). at w p < at w q) l r a.0 c.0, ascends_append l r a.1 b c.1)

  pub ascends_row : (x n y : ℕ) → Ascends w (row x n y)
  unfolding row
  ascends_row x zero y = tt
  ascends_row x (suc n) y = (all_row _ (suc x) n y (λ k a b. omega arith), ascends_row (suc x) n y)

  pub ascends_block : (x n y m : ℕ) → (1 ≤ n → x + n ≤ w) → Ascends w (block x n y m)
  unfolding block
  ascends_block x n y zero h = tt
  ascends_block x n y (suc m) h =
      ascends_append (row x n y) (block x n (suc y) m) (ascends_row x n y) (ascends_block x n (suc y) m h)
      (all_row _ x n y (λ k a b. all_block _ x n (suc y) m (λ i j c d e g. omega (arith, h (omega arith), mul-le-mul_right w e, suc-mul y w))))

pub holds_row : (x n y k : ℕ) → x ≤ k → k < x + n → Holds (row x n y) k y
unfolding row
holds_row x zero y k a b = absurd (omega arith)
holds_row x (suc n) y k a b =
    ⊎_elim (λ e. Memᴰ.head (λ t. record { x = sym e t; y = y })) (λ l. Memᴰ.tail (holds_row (suc x) n y k l (omega arith)))
    (eq-or-lt_of_le a)

pub holds_block : (x n y m k j : ℕ) → x ≤ k → k < x + n → y ≤ j → j < y + m → Holds (block x n y m) k j
unfolding block
holds_block x n y zero k j a b c d = absurd (omega arith)
holds_block x n y (suc m) k j a b c d =
    ⊎_elim (λ e. Memᴰ.append_left (block x n (suc y) m) (subst (λ (i : ℕ). Holds (row x n y) k i) e (holds_row x n y k a b)))
    (λ l. Memᴰ.append_right (row x n y) (holds_block x n (suc y) m k j a b l (omega arith))) (eq-or-lt_of_le c)

-- a pixel's number says its column and its row
same_point : (w x y x' y' : ℕ) → x < w → x' < w → y * w + x ≡ y' * w + x' → (x ≡ x') × (y ≡ y')
same_point w x y x' y' a b e =
    (sym (digits_mod y a) ∙ ap (λ (k : ℕ). k % w) e ∙ digits_mod y' b, sym (digits_div y a) ∙ ap (λ (k : ℕ). k / w) e ∙ digits_div y' b)

pub off_block : (w x n y m k j : ℕ) → (1 ≤ n → x + n ≤ w) → k < w → (x ≤ k → k < x + n → y ≤ j → j < y + m → ⊥)
    → Off w (pixel_index w k j) (block x n y m)
off_block w x n y m k j on l g =
    all_block _ x n y m (λ k' j' a b c d e. let q = same_point w k j k' j' l (omega (arith, on (omega arith))) e in
    g (omega arith) (omega arith) (omega arith) (omega arith))

-- ---- so a rectangle drawn

module _ (w : ℕ) (f : Paint) (x n y m : ℕ) (s : List ℕ) (on : 1 ≤ n → x + n ≤ w) where
  pub saved_before : saved w f (block x n y m) s ≡ map (λ (p : Point). entry p.x p.y (get_or s (pixel_index w p.x p.y) 0)) (block x n y m)
  saved_before = saved_first w f (block x n y m) s (ascends_block w x n y m on)

  -- column k and row j
  module _ (k j : ℕ) where
    pub drawn_inside : x ≤ k → k < x + n → y ≤ j → j < y + m → (y + m) * w ≤ length s
        → get_or (drawn w f (block x n y m) s) (pixel_index w k j) 0 ≡ f (get_or s (pixel_index w k j) 0) k j
    drawn_inside a b c d l =
        drawn_at w f (block x n y m) s k j (ascends_block w x n y m on) (holds_block x n y m k j a b c d)
        (omega (arith, on (omega arith), mul-le-mul_right w d, suc-mul j w))

    pub drawn_outside : k < w → (x ≤ k → k < x + n → y ≤ j → j < y + m → ⊥)
        → get_or (drawn w f (block x n y m) s) (pixel_index w k j) 0 ≡ get_or s (pixel_index w k j) 0
    drawn_outside l g = drawn_off w f (block x n y m) s (pixel_index w k j) (off_block w x n y m k j on l g)
