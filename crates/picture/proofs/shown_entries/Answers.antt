-- Above 8 bits the palette shows no entry.
use Rattle.std.proofs.Common.{◌≡◌, false, leb, refl}
use Prim.Native.Nat.{zero-le}
use borrow.Author.Tests.{lt-leb}
use Rattle.picture.proofs.shown_entries.Goals as goal

pub returns : goal.returns
returns c =
    let above : leb c.args.h.bits 8 ≡ false = lt-leb _ _ c.if-h-le8.false in
    (rw above refl, zero-le)
