-- Document 01, refusal 12, said once more over signed numbers, for the reader. The definitions of Geometry.antt say how it is computed
-- from 32-bit words; that both agree is `says_refusal_12` in proofs/SignedGeometryLaws.antt.
use Rattle.std.specs.Prelude.{◌≡◌, Bool, cond, ◌||◌, ℕ, ◌^◌, ◌<◌, ltb, ℤ, pos, neg_ℤ, nat_abs, ◌+ℤ◌}
use Rattle.std.specs.Int.Signed.{lt_z}
use Rattle.words.specs.Bytes.{signed32}
use Rattle.judge.specs.Geometry.{bad_side, far, sticks_out}

-- "outside ±1,000,000"
unfoldable pub outside_million : ℤ → Bool
outside_million z = lt_z z (neg_ℤ (pos 1000000)) || lt_z (pos 1000000) z

-- "A negative extent covers the pixels before its corner: x + cx up to x − 1." The first column of a rectangle, and the one behind its last
unfoldable pub first_column : (x cx : ℤ) → ℤ
first_column x cx = cond (lt_z cx (pos 0)) (x +ℤ cx) x

unfoldable pub behind_column : (x cx : ℤ) → ℤ
behind_column x cx = cond (lt_z cx (pos 0)) x (x +ℤ cx)

pub record SaysRefusal12 : Type 0 where
  -- "corner .. outside ±1,000,000"
  pub corner : (x : ℕ) → x < 2 ^ 32 → far x ≡ outside_million (signed32 x)
  -- "extent without sign not 1..most"
  pub side : (most x : ℕ) → x < 2 ^ 32 → bad_side most x ≡ (ltb (nat_abs (signed32 x)) 1 || ltb most (nat_abs (signed32 x)))
  -- "rectangle not inside its picture", whose columns are 0 to n − 1
  pub inside : (x cx n : ℕ) → x < 2 ^ 32 → cx < 2 ^ 32
      → sticks_out x cx n
      ≡ (lt_z (first_column (signed32 x) (signed32 cx)) (pos 0) || lt_z (pos n) (behind_column (signed32 x) (signed32 cx)))
