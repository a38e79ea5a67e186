-- Each refusal stands where the definition has it: the tests before it did not hold, and its own does.
use Rattle.std.proofs.Common.{◌≡◌, true, false, refl}
use Rattle.dib.specs.HeaderStatus.{bad_header, bad_masks, bits_needed, dib_status}
use lib.Dec.{ltb}
use borrow.Author.Tests.{lt-ltb}
use Rattle.dib.proofs.status.Goals as goal

pub returns-then-bad_masks : goal.returns-then-bad_masks
unfolding dib_status
returns-then-bad_masks c =
    let header : bad_header c.args.len c.args.h ≡ false = cc in
    let masks : bad_masks c.args.h ≡ true = cc in
    rw (header, masks) refl

pub returns-then-bits-bits_needed : goal.returns-then-bits-bits_needed
unfolding dib_status
returns-then-bits-bits_needed c =
    let a = c.args in
    let header : bad_header a.len a.h ≡ false = cc in
    let masks : bad_masks a.h ≡ false = cc in
    let short : ltb a.bits (bits_needed a.h) ≡ true = lt-ltb _ _ (rw c.bits_needed.ensures at c.if-bits-bits_needed.true) in
    rw (header, masks, short) refl
