-- Document 01: "signed fields in two's complement". The four readings of a 32-bit word are one number: its value, its size without the
-- sign, its sign, and its value raised by 2^32. That they are is `twos_complement` in proofs/SignedLaws.antt.
use Rattle.std.specs.Prelude.{◌≡◌, cond, ℕ, ◌^◌, pos, neg_ℤ, nat_abs, ◌+ℤ◌}
use Rattle.std.specs.Int.Signed.{lt_z}
use Rattle.words.specs.Bytes.{signed32, negative32, magnitude32, raised}

pub record TwosComplement (x : ℕ) : Type 0 where
  pub value : signed32 x ≡ cond (negative32 x) (neg_ℤ (pos (magnitude32 x))) (pos (magnitude32 x))
  pub size : nat_abs (signed32 x) ≡ magnitude32 x
  pub sign : lt_z (signed32 x) (pos 0) ≡ negative32 x
  pub lifted : signed32 x +ℤ pos (2 ^ 32) ≡ pos (raised x)
