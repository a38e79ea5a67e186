-- A number laid out in eight places behind zeros, without sign or prefix, has as many zeros as it lacks digits, and nothing behind it.
use native.Mathlib.Numerals.{unary_clauses}
use Rattle.std.proofs.lemmas.List.{append-nil}
use Rattle.std.specs.Fmt.{padded_integral, char_count}
use Rattle.vectors.proofs.line.HexDisplay.fmt.Goals as goal

pub returns-clause-writes : goal.returns-clause-writes
unfolding padded_integral char_count
returns-clause-writes g c = λ p ok.
    simp (append-nil, unary_clauses) at (rw (c.in_radix.ensures, c.laid_out.ensures) at c.write.ensures.writes p ok)
