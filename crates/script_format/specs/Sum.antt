-- Script format, "SUM is FNV-1a of 64 bits: start with h = 14695981039346656037; for each byte b: h = h xor b, then
-- h = h · 1099511628211 mod 2^64". Definitions only.
use Rattle.std.specs.Prelude.{ℕ, ◌*◌, ◌%◌, List, fold, flat_map}
use Rattle.std.specs.Int.Bits.{bit_xor}
use Rattle.words.specs.Bytes.{bytes32}

-- the sum of no bytes
abbrev pub start : ℕ
start = 14695981039346656037

unfoldable pub step : (h b : ℕ) → ℕ
step h b = bit_xor h b * 1099511628211 % 18446744073709551616

abbrev pub sum_from : (h : ℕ) → List ℕ → ℕ
sum_from h s = fold step h s

abbrev pub sum_of : List ℕ → ℕ
sum_of s = sum_from start s

-- "four little-endian bytes each"
abbrev pub bytes_of : List ℕ → List ℕ
bytes_of vs = flat_map bytes32 vs
