-- The answer and its number: a check accepts just where the status is 0, and refuses with the status. Assumes nothing.
use mathlib.Core.Path.{◌≡◌, refl, ap, ◌∙◌}
use mathlib.Core.List.{List}
use Prim.Native.Nat.{ℕ, zero, suc}
use Rattle.std.specs.Prelude.{Result, Ok, Err}
use Rattle.words.specs.Bytes.{le32}
use Rattle.words.specs.declared.refusal.Refusal.{Refusal}
use Rattle.words.specs.Refusal.{answer_of, numbered}
use Rattle.emr.specs.declared.Row.{Row}
use Rattle.emr.specs.declared.Fields.{Fields}
use Rattle.emr.specs.Types.{row_of}
use Rattle.emr.specs.Fixed.{fields_at}
use Rattle.emr.specs.FrameStatus.{frame_status, parts_status}
use Rattle.judge.specs.declared.Record.{Record}
use Rattle.judge.specs.Record.{record_with, record_of}
use Rattle.judge.specs.Check.{later_status, status_of, settled, check_of, status_in}

settled_number : (k : ℕ) (r : Record) → status_in (settled k r) ≡ k
settled_number zero r = refl
settled_number (suc k) r = refl

-- the enum's case and the order of statuses give the same number
pub check_number : (s : List ℕ) → status_in (check_of s) ≡ status_of s
unfolding check_of
check_number s = settled_number (status_of s) (record_of s)

answer_is : (r : Result Record Refusal) → answer_of r ≡ status_in (numbered r)
answer_is (Ok r) = refl
answer_is (Err refusal) = refl

-- of the check's answer
pub answered : (s : List ℕ) (q : Result Record Refusal) → numbered q ≡ check_of s
    → (answer_of q ≡ status_in (check_of s)) × (answer_of q ≡ status_of s)
answered s q e =
    let c = answer_is q ∙ ap status_in e in
    (c, c ∙ check_number s)

-- where no part of the check refuses, the record that its calls made is the accepted one
pub accepted_is : (s : List ℕ) {k : ℕ} {row : Row} {f : Fields} {r : Record}
    → k ≡ le32 s 0 → row ≡ row_of k → f ≡ fields_at s row.at → r ≡ record_with s k row f
    → 0 ≡ frame_status s row.at → 0 ≡ parts_status s row.at f → 0 ≡ later_status row f.operation r → Ok r ≡ check_of s
unfolding check_of status_of record_of
accepted_is s type row fields whole frame parts later = cc
