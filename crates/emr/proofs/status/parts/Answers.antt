-- 7 stands where the definition has it: no part lies outside, none share bytes, and the test of 7 holds.
use Rattle.std.proofs.Common.{◌≡◌, true, false, length, refl, sym, ◌∙◌}
use Rattle.emr.specs.FrameStatus.{any_outside, unreadable, parts_status}
use Rattle.emr.specs.SharedParts.{shared_parts}
use Rattle.emr.proofs.status.parts.Goals as goal

pub returns-then-unread : goal.returns-then-unread
unfolding parts_status
returns-then-unread c =
    let a = c.args in
    let outside : any_outside (length a.s.now) a.at.fixed a.f ≡ false = cc in
    let shared : shared_parts a.f ≡ false = sym c.parts-shared.ensures ∙ c.if-shared.false in
    let unread : unreadable a.s.now a.at a.f ≡ true = cc in
    rw (outside, shared, unread) refl
