-- A side of a term is 1 at a bit just where the colour's bit is the digit of the term's number. So a term carries its bit of the operation where all
-- three digits are the colours' bits, which is where its number is the index, and is 0 elsewhere; and of an or of which one is not 0, the one is left.
use mathlib.Core.Path.{◌≡◌, refl, sym, ap, ap₂, ◌∙◌, subst}
use mathlib.Core.Logic.{◌≢◌, ◌⊎◌, inl, inr}
use Prim.Native.Nat.{ℕ, zero, suc, ◌+◌, ◌-◌, ◌*◌, ◌^◌, ◌≤◌, ◌<◌, min, max}
use native.Mathlib.Omega.{arith}
use native.Mathlib.Nat.{eq-zero-or-pos, pow-suc}
use lib.Dec.{lit<}
use lib.Bits.{bit_and, bit_xor, differ, and_le_l, or_lt as or_below}
use Rattle.pixel.specs.Bits.{bit}
use Rattle.pixel.specs.Raster.{raster_index, raster}
use Rattle.pixel.specs.AndTerms.{spread_of, side_of, and_of, term_of, or_of, AndTerms}
use Rattle.pixel.proofs.BitLaws.{bit_lt, on_bit, bit_of_and, bit_of_or, bit_of_xor, bit_zero, bit_ones, by_bits}

-- ---- a side, a spread bit and an and at a bit

-- x is 1 just where the digit and b are the same bit
abbrev Same : (digit b x : ℕ) → Type 0
Same digit b x = (digit ≡ b → x ≡ 1) × (x + digit ≤ 1 + b) × (x + b ≤ 1 + digit)

side_bit : (digit colour k : ℕ) → digit < 2 → k < 24 → Same digit (bit colour k) (bit (side_of digit colour) k)
unfolding side_of
side_bit digit colour k hd h =
    on_bit (λ (d : ℕ). Same d (bit colour k) (bit (side_of d colour) k))
    (subst (Same 0 (bit colour k)) (sym flipped) (complement (bit colour k) (bit_lt colour k)))
    (as_it_is (bit colour k) (bit_lt colour k)) digit hd
  where
    flipped : bit (bit_xor colour 0xFFFFFF) k ≡ differ (bit colour k) 1
    flipped = bit_of_xor colour 0xFFFFFF k ∙ ap (differ (bit colour k)) (bit_ones 24 k h)

    complement : (b : ℕ) → b < 2 → Same 0 b (differ b 1)
    complement = on_bit (λ (b : ℕ). Same 0 b (differ b 1)) ((λ e. refl), omega arith, omega arith) ((λ e. omega arith), omega arith, omega arith)

    as_it_is : (b : ℕ) → b < 2 → Same 1 b b
    as_it_is b hb = (sym, omega arith, omega arith)

spread_bit : (op i k : ℕ) → k < 24 → bit (spread_of op i) k ≡ bit op i
unfolding spread_of
spread_bit op i k h = on_bit (λ (n : ℕ). bit (0xFFFFFF * n) k ≡ n) (bit_zero k) (bit_ones 24 k h) (bit op i) (bit_lt op i)

and_bit : (p x y z k : ℕ) → bit (and_of p x y z) k ≡ min (min (min (bit p k) (bit x k)) (bit y k)) (bit z k)
unfolding and_of
and_bit p x y z k =
    bit_of_and (bit_and (bit_and p x) y) z k
    ∙ ap (λ (n : ℕ). min n (bit z k)) (bit_of_and (bit_and p x) y k ∙ ap (λ (n : ℕ). min n (bit y k)) (bit_of_and p x k))

and_le : (p x y z : ℕ) → and_of p x y z ≤ p
unfolding and_of
and_le p x y z = omega (arith, and_le_l p x, and_le_l (bit_and p x) y, and_le_l (bit_and (bit_and p x) y) z)

-- ---- a term at a bit

digits : (i : ℕ) → i < 8 → i ≡ 4 * bit i 2 + 2 * bit i 1 + bit i 0
unfolding bit
digits i h = omega arith

index_lt : (b s t k : ℕ) → raster_index b s t k < 8
unfolding raster_index
index_lt b s t k = omega (arith, bit_lt b k, bit_lt s k, bit_lt t k)

-- the operation's bit n, where three digits and three bits make the same number
module _ {n p q r b s t x y z : ℕ} (hn : n < 2) (hx : Same p b x) (hy : Same q s y) (hz : Same r t z) where
  one : 4 * p + 2 * q + r ≡ 4 * b + 2 * s + t → p < 2 → q < 2 → r < 2 → b < 2 → s < 2 → t < 2 → min (min (min n x) y) z ≡ n
  one e hp hq hr hb hs ht = omega (arith, hx.0 (omega arith), hy.0 (omega arith), hz.0 (omega arith))

  none : 4 * p + 2 * q + r ≢ 4 * b + 2 * s + t → min (min (min n x) y) z ≡ 0
  none e = omega arith

module _ (op b s t k : ℕ) (h : k < 24) where
  side : (i j colour : ℕ) → Same (bit i j) (bit colour k) (bit (side_of (bit i j) colour) k)
  side i j colour = side_bit (bit i j) colour k (bit_lt i j) h

  carries : let i = raster_index b s t k in bit (term_of op i b s t) k ≡ bit op i
  unfolding term_of raster_index
  carries =
      let i = raster_index b s t k in
      and_bit _ _ _ _ k ∙ one (bit_lt (spread_of op i) k) (side i 2 b) (side i 1 s) (side i 0 t) (sym (digits i (index_lt b s t k)))
      (bit_lt i 2) (bit_lt i 1) (bit_lt i 0) (bit_lt b k) (bit_lt s k) (bit_lt t k) ∙ spread_bit op i k h

  others : (i : ℕ) → i < 8 → i ≢ raster_index b s t k → bit (term_of op i b s t) k ≡ 0
  unfolding term_of raster_index
  others i hi ne =
      and_bit _ _ _ _ k ∙ none (bit_lt (spread_of op i) k) (side i 2 b) (side i 1 s) (side i 0 t) (λ e. ne (digits i hi ∙ e))

-- ---- the or

-- at a bit where no term is 1, and at one where no other than term i is
module _ (k : ℕ) where
  or_none : (n : ℕ) (term : ℕ → ℕ) → ((j : ℕ) → j < 2 ^ n → bit (term j) k ≡ 0) → bit (or_of n term) k ≡ 0
  unfolding or_of
  or_none zero term z = z 0 (lit< tt)
  or_none (suc n) term z =
      bit_of_or (or_of n term) _ k
      ∙ ap₂ max (or_none n term (λ j l. z j (omega (arith, pow-suc 2 n)))) (or_none n _ (λ j l. z (2 ^ n + j) (omega (arith, pow-suc 2 n))))

  or_one : (n : ℕ) (term : ℕ → ℕ) (i : ℕ) → i < 2 ^ n → ((j : ℕ) → j < 2 ^ n → j ≢ i → bit (term j) k ≡ 0) → bit (or_of n term) k ≡ bit (term i) k
  unfolding or_of
  or_one zero term i l z = ap (λ (j : ℕ). bit (term j) k) (omega arith)
  or_one (suc n) term i l z =
      bit_of_or (or_of n term) _ k
      ∙ half (λ q. or_one n term i q (λ j r ne. z j (omega (arith, pow-suc 2 n)) ne))
      (λ j e. or_one n above j (omega (arith, pow-suc 2 n)) (λ m r ne. z (2 ^ n + m) (omega (arith, pow-suc 2 n)) (λ u. ne (omega arith))))
      (eq-zero-or-pos (2 ^ n - i))
    where
      above : ℕ → ℕ
      above j = term (2 ^ n + j)

      half : (i < 2 ^ n → bit (or_of n term) k ≡ bit (term i) k) → ((j : ℕ) → 2 ^ n + j ≡ i → bit (or_of n above) k ≡ bit (above j) k)
          → (2 ^ n - i ≡ 0) ⊎ (0 < 2 ^ n - i) → max (bit (or_of n term) k) (bit (or_of n above) k) ≡ bit (term i) k
      half low high (inl e) =
          let f : 2 ^ n + (i - 2 ^ n) ≡ i = omega arith in
          omega (arith, or_none n term (λ j q. z j (omega (arith, pow-suc 2 n)) (λ u. omega arith)), high (i - 2 ^ n) f, ap (λ (j : ℕ). bit (term j) k) f)
      half low high (inr q) =
          omega (arith, low (omega arith), or_none n above (λ j r. z (2 ^ n + j) (omega (arith, pow-suc 2 n)) (λ u. omega arith)))

or_lt : (n : ℕ) (term : ℕ → ℕ) → ((i : ℕ) → term i < 2 ^ 24) → or_of n term < 2 ^ 24
unfolding or_of
or_lt zero term h = h 0
or_lt (suc n) term h = or_below 24 (or_of n term) _ (or_lt n term h) (or_lt n _ (λ i. h (2 ^ n + i)))

-- ---- the claim

term_lt : (op i b s t : ℕ) → term_of op i b s t < 2 ^ 24
unfolding term_of spread_of
term_lt op i b s t = omega (arith, bit_lt op i, and_le (spread_of op i) (side_of (bit i 2) b) (side_of (bit i 1) s) (side_of (bit i 0) t))

pub or_of_terms : (op b s t : ℕ) → raster op b s t ≡ or_of 3 (λ i. term_of op i b s t)
unfolding raster
or_of_terms op b s t =
    let term : ℕ → ℕ = λ i. term_of op i b s t in
    sym (by_bits 24 (or_of 3 term) _ (or_lt 3 term (λ i. term_lt op i b s t))
    (λ k h. or_one k 3 term (raster_index b s t k) (index_lt b s t k) (others op b s t k h) ∙ carries op b s t k h))

pub and_terms : AndTerms
and_terms = record {
  colour = or_of_terms;
  colour_bits = term_lt;
  at_bit = λ op b s t k h. record { numbered = index_lt b s t k; carries = carries op b s t k h; others = others op b s t k h };
}
