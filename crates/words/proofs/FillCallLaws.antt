-- What a call of words::fill leaves is a filled list. Assumes nothing.
use Rattle.std.proofs.Common.{◌≡◌, sym, ◌∙◌, ℕ, ◌≤◌, ◌<◌, List, ◌++◌, length, get_or, take, drop, arith}
use Rattle.std.proofs.lemmas.List.{get_or_past}
use Rattle.std.proofs.lemmas.Grind.{common_steps}
use Rattle.words.specs.Filled.{Filled}

-- `by_place`, at the front of a list
module _ (f : ℕ → ℕ) (d₀ : List ℕ) (n : ℕ) (front : List ℕ) (h : n ≤ length d₀) (l : length front ≡ length (take n d₀)) where
  pub filled_by_place : ((k : ℕ) → k < length (take n d₀) → get_or front k 0 ≡ f k) → Filled f d₀ n (front ++ drop n d₀)
  filled_by_place e = record { long = long; front = at_front; back = at_back }
    where
      long : length (front ++ drop n d₀) ≡ length d₀
      long = grind (arith, common_steps)

      at_front : (k : ℕ) → k < n → get_or (front ++ drop n d₀) k 0 ≡ f k
      at_front k p = grind (arith, common_steps, e k)

      at_back : (k : ℕ) → n ≤ k → get_or (front ++ drop n d₀) k 0 ≡ get_or d₀ k 0
      at_back k p = grind (arith, common_steps)

-- `by_place`, in a whole list: behind its end both read as 0
pub filled_whole : (f : ℕ → ℕ) (d₀ d : List ℕ) → length d ≡ length d₀ → ((k : ℕ) → k < length d₀ → get_or d k 0 ≡ f k)
    → Filled f d₀ (length d₀) d
filled_whole f d₀ d long front = record {
  long = long;
  front = front;
  back = λ k h. get_or_past d k 0 (omega (arith, long)) ∙ sym (get_or_past d₀ k 0 h);
}

-- `mapped`
pub filled_mapped : (f : ℕ → ℕ) (d₀ d : List ℕ) (n : ℕ) → length d ≡ length d₀ → ((k e : ℕ) → n ≤ k → get_or d k e ≡ get_or d₀ k e)
    → ((k : ℕ) → k < n → get_or d k 0 ≡ f k) → Filled f d₀ n d
filled_mapped f d₀ d n long back front = record { long = long; front = front; back = λ k h. back k 0 h }
