-- A play appends a record for each pixel that it counts, and one more. Assumes nothing.
use mathlib.Core.Path.{◌≡◌, ap, ◌∙◌}
use mathlib.Core.List.{List}
use Prim.Native.Nat.{ℕ, ◌+◌}
use lib.ListN.{length, length-append}
use Rattle.journal.specs.Drawing.{Work}
use Rattle.journal.specs.Records.{saved}
use Rattle.journal.proofs.RecordLaws.{length_saved}
use Rattle.memory.specs.Playing.{counted, appended}

pub length_appended : (w : ℕ) (k : Work) (s : List ℕ) → length (appended w k s) ≡ counted k + 1
unfolding appended
length_appended w k s = length-append (saved w k.paint k.points s) _ ∙ ap (λ (n : ℕ). n + 1) (length_saved w k.paint k.points s)
