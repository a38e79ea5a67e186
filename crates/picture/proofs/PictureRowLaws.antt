-- A row of a picture lies in its bits part. Assumes nothing.
use mathlib.Core.Path.{◌≡◌, ap}
use mathlib.Core.List.{List}
use Prim.Native.Nat.{ℕ, ◌+◌, ◌*◌, ◌≤◌, ◌<◌}
use native.Mathlib.Omega.{arith}
use lib.ListN.{length, length-take, length-drop}
use Rattle.pixel.specs.Position.{row_length}
use Rattle.dib.specs.Header.{rows}
use Rattle.sample.proofs.AtLaws.{row_in}
use Rattle.judge.specs.declared.Picture.{Picture}
use Rattle.judge.specs.Record.{header_part, bits_part}
use Rattle.judge.specs.Good.{Fit}

pub length_bits : (s : List ℕ) (p : Picture) → Fit (length s) p → length (bits_part s p) ≡ p.bits_len
unfolding bits_part
length_bits s p f = simp (length-take, length-drop) (omega (arith, f.bits_in))

pub length_header : (s : List ℕ) (p : Picture) → Fit (length s) p → length (header_part s p) ≡ p.bmi_len
unfolding header_part
length_header s p f = simp (length-take, length-drop) (omega (arith, f.header_read))

pub row_inside : (s : List ℕ) (p : Picture) → Fit (length s) p → (l : List ℕ) (long m k : ℕ) → l ≡ bits_part s p
    → long ≡ row_length p.header.width p.header.bits → m ≡ rows p.header → k < m → (k + 1) * long ≤ length l
row_inside s p f l long m k b a g q =
    row_in p.header l long m k a g q (omega (arith, ap length b, length_bits s p f, f.sound.rows_ok))
