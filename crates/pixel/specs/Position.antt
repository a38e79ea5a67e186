-- Where things lie in pictures. Definitions only; proofs/PositionLaws.antt shows that a remainder is the least non-negative one.
use Rattle.std.specs.Prelude.{Bool, true, false, ◌||◌, ℕ, ◌+◌, ◌-◌, ◌*◌, ◌/◌, ◌%◌, eqb, ℤ, pos, negsuc, ◌+ℤ◌}

-- the bits that a pixel may have
unfoldable pub is_depth : (bits : ℕ) → Bool
is_depth bits = eqb bits 1 || eqb bits 4 || eqb bits 8 || eqb bits 16 || eqb bits 24 || eqb bits 32

-- "Row length in bytes: floor((width·bits + 31)/32)·4."
unfoldable pub row_length : (width bits : ℕ) → ℕ
row_length width bits = (width * bits + 31) / 32 * 4

-- "target column i from the left reads source column j = floor(i·n/m), or n − 1 − j if the signs differ; rows alike"
unfoldable pub source_position : (mirrored : Bool) (i n m : ℕ) → ℕ
source_position false i n m = i * n / m
source_position true i n m = n - 1 - i * n / m

-- "the least non-negative remainder"; negsuc a is -(a + 1)
unfoldable pub remainder : (z : ℤ) (w : ℕ) → ℕ
remainder (pos a) w = a % w
remainder (negsuc a) w = w - 1 - a % w

-- "Its mask pixel for (i, j) is at (xMask + i) and (yMask + j), each taken as the least non-negative remainder by the mask's
-- width and height"
unfoldable pub mask_pixel : (xMask : ℤ) (i width : ℕ) → ℕ
mask_pixel xMask i width = remainder (xMask +ℤ pos i) width
