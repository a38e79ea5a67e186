-- The palette as it is filled: the table's colours over 256 black ones. Assumes nothing.
use mathlib.Core.Path.{◌≡◌, refl, sym, ap, ◌∙◌}
use mathlib.Core.Bool.{Bool, true, false, cond}
use mathlib.Core.List.{List}
use Prim.Native.Nat.{ℕ, zero, suc, ◌*◌, ◌^◌, ◌≤◌, ◌<◌}
use native.Mathlib.Nat.{le_trans}
use lib.Dec.{lit<, ltb}
use lib.ListN.{get_or, replicate, length-replicate, get_or-replicate}
use borrow.Author.Tests.{ltb-true, ltb-false}
use Rattle.words.specs.Bytes.{byte_at}
use Rattle.words.specs.Filled.{Filled}
use Rattle.words.proofs.ByteLaws.{le_lt}
use Rattle.words.proofs.FillLaws.{filled_all}
use Rattle.sample.specs.At.{Colours}
use Rattle.sample.specs.Palette.{entry_colour, palette_of}

abbrev black : List ℕ
black = replicate 256 0

pub black_colours : (n : ℕ) → Colours (replicate n 0)
black_colours zero k = lit< tt
black_colours (suc n) zero = lit< tt
black_colours (suc n) (suc k) = black_colours n k

-- the colour that index k shows
abbrev colour_at : (table : List ℕ) (n k : ℕ) → ℕ
colour_at table n k = cond (ltb k n) (entry_colour table k) 0

module _ (table : List ℕ) (n : ℕ) (d : List ℕ) (p : Filled (entry_colour table) black n d) where
  pub palette_is : n ≤ 256 → d ≡ palette_of table n
  unfolding palette_of
  palette_is h =
      filled_all (colour_at table n) black d 256 (length-replicate {A = ℕ} 256 0)
      (record { long = p.long; front = λ k l. at k l (ltb k n) refl; back = λ k l. p.back k (le_trans h l) })
    where
      by_test : {b : Bool} (k : ℕ) → ltb k n ≡ b → cond b (entry_colour table k) 0 ≡ colour_at table n k
      by_test k e = sym (ap (λ (b : Bool). cond b (entry_colour table k) 0) e)

      at : (k : ℕ) → k < 256 → (b : Bool) → ltb k n ≡ b → get_or d k 0 ≡ colour_at table n k
      at k l true e = p.front k (ltb-true k n e) ∙ by_test k e
      at k l false e = p.back k (ltb-false k n e) ∙ get_or-replicate {A = ℕ} 256 k 0 0 l ∙ by_test k e

  -- every entry is a colour
  pub colours : ((i : ℕ) → byte_at table i < 256) → Colours d
  unfolding entry_colour
  colours h k = go (ltb k n) refl
    where
      go : (b : Bool) → ltb k n ≡ b → get_or d k 0 < 2 ^ 24
      go true e = rw (p.front k (ltb-true k n e)) (le_lt 3 table (k * 4) h)
      go false e = rw (p.back k (ltb-false k n e)) (black_colours 256 k)
