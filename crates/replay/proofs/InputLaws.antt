-- A buffer that was filled anew keeps what was not read yet, since that was moved to the front and the new bytes stand behind it. Assumes nothing.
use mathlib.Core.Path.{◌≡◌, ap, ◌∙◌}
use mathlib.Core.List.{List, ◌++◌}
use Prim.Native.Nat.{ℕ, ◌+◌, ◌-◌, ◌≤◌, ◌<◌}
use native.Mathlib.Omega.{arith}
use lib.ListN.{length, get_or, take, drop, length-take, length-drop, get_or-append}
use lib.Seq.{length-take-le, get_or-take}
use Rattle.words.specs.Filled.{Filled}

-- the bytes from `at` to `end` lie in a buffer of that size
pub record Held (at end size : ℕ) : Type 0 where
  pub order : at ≤ end
  pub within : end ≤ size

-- what was held from `at` to `end` stands at `to` now, and more may stand behind it, up to `last`
pub record Unread (at end : ℕ) (before : List ℕ) (to last : ℕ) (after : List ℕ) : Type 0 where
  pub many : end - at ≤ last - to
  pub same : (k : ℕ) → k < end - at → get_or after (to + k) 0 ≡ get_or before (at + k) 0

-- b with what was left from `at` to `end` moved to its front is d, and the bytes ys were read behind
module _ (at end : ℕ) (b d ys : List ℕ) (read : ℕ) (held : Held at end (length b))
    (moved : Filled (λ k. get_or b (at + k) 0) b (end - at) d) where
  abbrev left : ℕ
  left = end - at

  pub held_front : read ≤ length ys → length ys ≡ length (take (length d - left) (drop left d)) → Held 0 (end - at + read) (length b)
  held_front few kept =
      record {
        order = omega arith;
        within = omega (
          arith,
          held.within,
          moved.long,
          length-drop left d,
          length-take-le (length d - left) (drop left d) (omega (arith, length-drop left d)),
        );
      }

  pub unread_front : (n : ℕ) → Unread at end b 0 (end - at + read) (take left d ++ (ys ++ drop n (drop left d)))
  unread_front n = record { many = omega arith; same = same }
    where
      same : (k : ℕ) → k < left → get_or (take left d ++ (ys ++ drop n (drop left d))) (0 + k) 0 ≡ get_or b (at + k) 0
      same k h =
          let long : length (take left d) ≡ left = length-take-le left d (omega (arith, held.within, moved.long)) in
          let zero : 0 + k ≡ k = omega arith in
          let in_front : k < length (take left d) = omega arith in
          ap (λ (j : ℕ). get_or (take left d ++ (ys ++ drop n (drop left d))) j 0) zero
          ∙ get_or-append (take left d) (ys ++ drop n (drop left d)) 0 k in_front ∙ get_or-take left d k 0 h ∙ moved.front k h

-- what lies in the bytes from `at` to `end`
pub stays : (at end size : ℕ) (l : List ℕ) → at ≤ end → size ≤ length (take (end - at) (drop at l)) → at + size ≤ end
stays at end size l order h = omega (arith, length-take (end - at) (drop at l))

-- the first n of at least n
pub whole : (n : ℕ) (l : List ℕ) → n ≤ length l → n ≤ length (take n l)
whole n l h = omega (arith, length-take-le n l h)
