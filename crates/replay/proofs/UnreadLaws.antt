-- Where the next bytes of a buffer are passed over, the rest is unread, and a number's bytes are those that it was read from. Assumes nothing.
use mathlib.Core.Path.{◌≡◌, sym, ap, ap₂, ◌∙◌}
use mathlib.Core.List.{List, [], ◌∷◌, ◌++◌}
use Prim.Native.Nat.{ℕ, ◌+◌, ◌-◌, ◌*◌, ◌/◌, ◌%◌, ◌≤◌, ◌<◌, min}
use native.Mathlib.Omega.{arith}
use lib.ListN.{length, take, drop}
use lib.Seq.{drop-drop}
use Rattle.std.specs.List.{slice_range}
use Rattle.std.proofs.BufReadLemmas.{drop-take_min}
use Rattle.words.specs.Bytes.{byte_at, le, le32, bytes32}

-- no more is passed over than the buffer holds
pub consumed : (b : List ℕ) (at end count n : ℕ) → n ≡ min count (end - at) → slice_range b (at + n) end ≡ drop count (slice_range b at end)
consumed b at end count n e =
    let left : end - (at + n) ≡ end - at - n = omega arith in
    ap₂ take left (sym (drop-drop n at b)) ∙ sym (drop-take_min (drop at b) (end - at) count n e)

-- the four bytes of the number that they make
bytes_of_four : (a b c d n : ℕ) → a < 256 → b < 256 → c < 256 → d < 256 → n ≡ a + 256 * b + 65536 * c + 16777216 * d
    → bytes32 n ≡ a ∷ b ∷ c ∷ d ∷ []
bytes_of_four a b c d n ha hb hc hd e =
    let first : n % 256 ≡ a = omega arith in
    let second : n / 256 % 256 ≡ b = omega arith in
    let third : n / 65536 % 256 ≡ c = omega arith in
    let fourth : n / 16777216 % 256 ≡ d = omega arith in
    λ t. first t ∷ second t ∷ third t ∷ fourth t ∷ []

-- a number's bytes and what stands behind them are what it was read from
pub bytes_read : (s : List ℕ) (n : ℕ) → 4 ≤ length s → ((k : ℕ) → byte_at s k < 256) → n ≡ le32 s 0 → bytes32 n ++ drop 4 s ≡ s
unfolding le
bytes_read [] n h b e = absurd (omega arith)
bytes_read (x ∷ []) n h b e = absurd (omega arith)
bytes_read (x ∷ y ∷ []) n h b e = absurd (omega arith)
bytes_read (x ∷ y ∷ z ∷ []) n h b e = absurd (omega arith)
bytes_read (x ∷ y ∷ z ∷ w ∷ rest) n h b e =
    ap (λ (l : List ℕ). l ++ rest) (bytes_of_four x y z w n (b 0) (b 1) (b 2) (b 3) (omega (arith, e)))
