-- Document 01, "Which pixels, from where", said once more over signed numbers, for the reader: the source's column and the mask's. The
-- definitions of Sampling.antt say how they are computed from 32-bit words; that both agree is `says_sampling` in
-- proofs/SignedSamplingLaws.antt. Rows alike.
use Rattle.std.specs.Prelude.{◌≡◌, Bool, false, not, ℕ, ◌^◌, ◌≤◌, ◌<◌, ℤ, pos, nat_abs, ◌+ℤ◌, ◌*ℤ◌}
use Rattle.std.specs.Bool.{beq}
use Rattle.std.specs.Int.Signed.{lt_z}
use Rattle.words.specs.Bytes.{signed32}
use Rattle.pixel.specs.Position.{source_position, mask_pixel}
use Rattle.judge.specs.SignedGeometry.{first_column}
use Rattle.meaning.specs.Sampling.{mirrored, source_column}

-- "if the signs differ"
unfoldable pub signs_differ : (a b : ℤ) → Bool
signs_differ a b = not (beq (lt_z a (pos 0)) (lt_z b (pos 0)))

-- r is "the least non-negative remainder" of z by w: z is a whole multiple of w and r more
pub record LeastRemainder (z : ℤ) (w r : ℕ) : Type 0 where
  pub below : r < w
  pub times : ℤ
  pub rest : z ≡ times *ℤ pos w +ℤ pos r

pub record SaysSampling : Type 0 where
  pub turned : (cx cx_src : ℕ) → cx < 2 ^ 32 → cx_src < 2 ^ 32 → mirrored cx cx_src ≡ signs_differ (signed32 cx) (signed32 cx_src)
  -- "target column i from the left reads source column j = floor(i·n/m), or n − 1 − j if the signs differ", counted from the first column
  -- of the source's rectangle, where that does not begin before column 0
  pub column : (x cx_src cx i : ℕ) → x < 2 ^ 32 → cx_src < 2 ^ 32 → cx < 2 ^ 32
      → lt_z (first_column (signed32 x) (signed32 cx_src)) (pos 0) ≡ false
      → pos (source_column x cx_src cx i)
      ≡ first_column (signed32 x) (signed32 cx_src)
      +ℤ pos (source_position (signs_differ (signed32 cx) (signed32 cx_src)) i (nat_abs (signed32 cx_src)) (nat_abs (signed32 cx)))
  -- "at (xMask + i) .., each taken as the least non-negative remainder by the mask's width and height"
  pub mask : (xMask : ℤ) (i width : ℕ) → 1 ≤ width → LeastRemainder (xMask +ℤ pos i) width (mask_pixel xMask i width)
