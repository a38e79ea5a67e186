-- The columns that are read, by what the code computes of them: each part is the definition's. Assumes nothing.
use mathlib.Core.Path.{◌≡◌, ◌∙◌}
use mathlib.Core.Bool.{Bool, true, false}
use Prim.Native.Nat.{ℕ, ◌+◌, ◌≤◌, ◌<◌}
use native.Mathlib.Omega.{arith}
use Rattle.words.specs.Bytes.{magnitude32}
use Rattle.pixel.specs.Position.{source_position}
use Rattle.pixel.proofs.PositionLaws.{column_lt}
use Rattle.meaning.specs.Sampling.{source_start, mirrored, source_column}

-- a column
module _ (x cx_src cx i start n m : ℕ) (b : Bool) (s : start ≡ source_start x cx_src) (g : b ≡ mirrored cx cx_src) (p : n ≡ magnitude32 cx_src)
    (q : m ≡ magnitude32 cx) where
  pub column_is : (r : ℕ) → r ≡ source_position b i n m → start + r ≡ source_column x cx_src cx i
  unfolding source_column
  column_is r e = λ t. s t + (e ∙ (λ u. source_position (g u) i (p u) (q u))) t

-- a column of the source's rectangle
pub position_lt : (b : Bool) (i n m : ℕ) → i < m → 1 ≤ n → source_position b i n m < n
unfolding source_position
position_lt false i n m h l = column_lt h l
position_lt true i n m h l = omega arith
