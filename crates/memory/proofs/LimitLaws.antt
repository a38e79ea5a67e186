-- What passing statuses 1 and 2 means. Assumes nothing.
use mathlib.Core.Path.{◌≡◌}
use mathlib.Core.Bool.{not}
use Prim.Native.Nat.{ℕ, ◌*◌, ◌/◌, ◌%◌, ◌≤◌}
use lib.Dec.{ltb, eqb, lit<}
use borrow.Author.Tests.{le-ltb, ltb-false, eq-eqb, eqb-true, not-false}
use Rattle.words.proofs.ChoiceLaws.{given_none, or_else_none, or_none}
use Rattle.journal.specs.Records.{stride}
use Rattle.memory.specs.Memory.{bad_surface, bad_journal, surface_status, journal_status, limits}

-- what passing means, of the surface, of the journal, and of both
pub record SurfacePassed (w h pixels : ℕ) : Type 0 where
  pub wide : (1 ≤ w) × (w ≤ 4096)
  pub high : (1 ≤ h) × (h ≤ 4096)
  pub pixels_are : pixels ≡ w * h

pub record JournalPassed (size used : ℕ) : Type 0 where
  pub whole : size % stride ≡ 0
  pub most : size / stride ≤ 20000000
  pub enough : used ≤ size / stride

pub record Passed (w h pixels size used : ℕ) : Type 0 where
  pub wide : (1 ≤ w) × (w ≤ 4096)
  pub high : (1 ≤ h) × (h ≤ 4096)
  pub pixels_are : pixels ≡ w * h
  pub whole : size % stride ≡ 0
  pub most : size / stride ≤ 20000000
  pub enough : used ≤ size / stride

pub surface_passed : (w h pixels : ℕ) → surface_status w h pixels ≡ 0 → SurfacePassed w h pixels
unfolding surface_status bad_surface
surface_passed w h pixels q =
    let a = or_none _ (not (eqb pixels (w * h))) (given_none 1 (bad_surface w h pixels) 0 (lit< tt) q).0 in
    let b = or_none _ (ltb 4096 h) a.0 in
    let c = or_none _ (ltb h 1) b.0 in
    let d = or_none (ltb w 1) (ltb 4096 w) c.0 in
    record {
      wide = (ltb-false w 1 d.0, ltb-false 4096 w d.1);
      high = (ltb-false h 1 c.1, ltb-false 4096 h b.1);
      pixels_are = eqb-true pixels (w * h) (not-false _ a.1);
    }

pub journal_passed : (size used : ℕ) → journal_status size used ≡ 0 → JournalPassed size used
unfolding journal_status bad_journal
journal_passed size used q =
    let a = or_none _ (ltb (size / stride) used) (given_none 2 (bad_journal size used) 0 (lit< tt) q).0 in
    let b = or_none (not (eqb (size % stride) 0)) (ltb 20000000 (size / stride)) a.0 in
    record {
      whole = eqb-true (size % stride) 0 (not-false _ b.0);
      most = ltb-false 20000000 (size / stride) b.1;
      enough = ltb-false (size / stride) used a.1;
    }

pub passed : (w h pixels size used : ℕ) → limits w h pixels size used ≡ 0 → Passed w h pixels size used
unfolding limits
passed w h pixels size used q =
    let both = or_else_none (surface_status w h pixels) (journal_status size used) q in
    let s = surface_passed w h pixels both.0 in
    let j = journal_passed size used both.1 in
    record { wide = s.wide; high = s.high; pixels_are = s.pixels_are; whole = j.whole; most = j.most; enough = j.enough }

pub limits_none : {w h pixels size used : ℕ} → Passed w h pixels size used → 0 ≡ limits w h pixels size used
unfolding limits surface_status journal_status bad_surface bad_journal
limits_none {w} {h} {pixels} {size} {used} p =
    rw (
      le-ltb w 1 p.wide.0,
      le-ltb 4096 w p.wide.1,
      le-ltb h 1 p.high.0,
      le-ltb 4096 h p.high.1,
      eq-eqb pixels (w * h) p.pixels_are,
      eq-eqb (size % stride) 0 p.whole,
      le-ltb 20000000 (size / stride) p.most,
      le-ltb (size / stride) used p.enough,
    )
