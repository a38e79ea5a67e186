-- A pattern above infinity's is a NaN's, and there is one NaN.
use borrow.Author.Tests.{lt-ltb, le-ltb}
use mathlib.Core.Path.{◌≡◌, refl, ◌∙◌, ap, sym, subst}
use mathlib.Core.Bool.{Bool, true, not}
use Prim.Native.Nat.{ℕ, ◌%◌, ◌<◌, ◌≤◌}
use lib.Dec.{T}
use lib.Ieee.{Float, nan, inf, fin, binary32, of_bits, nan_bits, is_nan, div}
use lib.Ieee.Bits.{nan_bits_is, nan_bits_above}
use Rattle.emr.proofs.xform.float.Goals as goal

only_nan : (x : Float) → is_nan x ≡ true → x ≡ nan
unfolding is_nan
only_nan nan e = refl
only_nan (inf s) e = cc
only_nan (fin s m k) e = cc

-- a pattern above infinity's is a NaN's
nan_above : (n : ℕ) → 2139095040 < n % 2147483648 → of_bits binary32 n ≡ nan
nan_above n h = only_nan _ (sym (nan_bits_is binary32 n) ∙ (nan_bits_above binary32 n ∙ lt-ltb _ _ h))

no_nan : (n : ℕ) → n % 2147483648 ≤ 2139095040 → T (not (nan_bits binary32 n))
no_nan n h = subst (λ (b : Bool). T (not b)) (sym (nan_bits_above binary32 n ∙ le-ltb _ _ h)) tt

pub float_from_bits-result : goal.float_from_bits-result
float_from_bits-result c = no_nan _ c.if-x-gt2139095040.false

pub returns-then-x-gt2139095040 : goal.returns-then-x-gt2139095040
unfolding div of_bits
returns-then-x-gt2139095040 c = sym (nan_above _ c.if-x-gt2139095040.true) ∙ ap (of_bits binary32) c.read-x.ensures.0
