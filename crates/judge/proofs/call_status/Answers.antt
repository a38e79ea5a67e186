-- Each refusal stands where the definition has it: the tests before it did not hold, and its own does.
use Rattle.std.proofs.Common.{◌≡◌, true, false, not, nat_eq, refl}
use Rattle.judge.specs.Operation.{bad_operation, bad_mask}
use Rattle.judge.specs.Check.{bad_geometry, call_status}
use Rattle.judge.proofs.call_status.Goals as goal

pub returns-then-bad_geometry : goal.returns-then-bad_geometry
unfolding call_status
returns-then-bad_geometry c =
    let a = c.args in
    let operation : bad_operation a.row.form a.operation a.r.action a.r.source ≡ false = cc in
    let geometry : bad_geometry a.row.signed a.r ≡ true = cc in
    rw (operation, geometry) refl

pub returns-then-bad_mask : goal.returns-then-bad_mask
unfolding call_status
returns-then-bad_mask c =
    let a = c.args in
    let operation : bad_operation a.row.form a.operation a.r.action a.r.source ≡ false = cc in
    let geometry : bad_geometry a.row.signed a.r ≡ false = cc in
    let stencil : bad_mask (not (nat_eq a.row.at.mask 0)) a.r.mask ≡ true = cc in
    rw (operation, geometry, stencil) refl
