-- A mask bit is 1 or 0: a bit of a stored byte, or 0 where there is no mask. Assumes nothing.
use mathlib.Core.List.{List}
use Prim.Native.Nat.{ℕ, ◌≤◌, zero-le}
use native.Mathlib.Omega.{arith}
use Rattle.std.specs.Prelude.{Option, Some, None}
use Rattle.sample.specs.Stored.{stored1}
use Rattle.judge.specs.declared.Picture.{Picture}
use Rattle.judge.specs.declared.Record.{Record}
use Rattle.meaning.specs.Sampling.{mask_shown, mask_read, mask_bit}

stored : (row : List ℕ) (column : ℕ) → stored1 row column ≤ 1
unfolding stored1
stored row column = omega arith

read : (s : List ℕ) (mask : Option Picture) (i j : ℕ) → mask_read s mask i j ≤ 1
unfolding mask_shown
read s None i j = zero-le
read s (Some p) i j = stored _ _

pub one_or_zero : (s : List ℕ) (r : Record) (i j : ℕ) → mask_bit s r i j ≤ 1
unfolding mask_bit
one_or_zero s r i j = read s r.mask i j
