-- Document 01: "XformSrc is read as six 32-bit floats and is the identity when they compare equal to 1, 0, 0, 1, 0, 0; negative zero
-- passes, a NaN does not." Definitions only.
use Rattle.std.specs.Prelude.{ℕ, ◌+◌, List, Bool, false, ◌&&◌, pos, Float}
use Rattle.std.specs.Float.{fin, binary32}
use Rattle.std.specs.Float.Ieee.{of_bits, eq}
use Rattle.words.specs.Bytes.{le32}
use Rattle.emr.specs.declared.Transform.{Transform}

abbrev pub zero32 : Float
zero32 = fin false 0 (pos 0)

abbrev pub one32 : Float
one32 = fin false 1 (pos 0)

abbrev pub float32 : List ℕ → ℕ → Float
float32 s at = of_bits binary32 (le32 s at)

abbrev pub transform_of : List ℕ → ℕ → Transform
transform_of s at = record {
  m11 = float32 s at;
  m12 = float32 s (at + 4);
  m21 = float32 s (at + 8);
  m22 = float32 s (at + 12);
  dx = float32 s (at + 16);
  dy = float32 s (at + 20);
}

-- by IEEE's comparison
abbrev pub is_identity : Transform → Bool
is_identity x =
    eq x.m11 one32 && eq x.m12 zero32 && eq x.m21 zero32 && eq x.m22 one32 && eq x.dx zero32 && eq x.dy zero32
