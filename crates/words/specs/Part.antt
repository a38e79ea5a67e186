-- A part of a slice that is the slice's own bytes, never a copy. Definitions only.
use Rattle.std.specs.Prelude.{ℕ, ◌+◌, List, ◌≡◌}
use Rattle.std.specs.Borrow.{Bor}
use Rattle.words.specs.Bytes.{part_of}

-- r is so many bytes of s from a place on: what stands there, at s's own pointer, moved
pub record IsPart (s r : Bor (List ℕ)) (at len : ℕ) : Type 0 where
  pub bytes : r.now ≡ part_of s.now at len
  pub own : r.ref_ptr ≡ (s.ref_ptr.0, s.ref_ptr.1 + at)
