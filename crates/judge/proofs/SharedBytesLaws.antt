-- Status 21's place in the order: behind 3 to 6, which are below it, and before all that is left, which is below it too. Assumes nothing.
use mathlib.Core.Path.{◌≡◌, refl, sym, ap, ◌∙◌}
use mathlib.Core.Bool.{Bool, true, false, not}
use mathlib.Core.List.{List}
use Prim.Native.Nat.{ℕ, zero, suc, ◌≤◌, zero-le}
use native.Mathlib.Omega.{arith}
use lib.Dec.{lit≤, eqb, ltb}
use lib.ListN.{length}
use Rattle.std.specs.Prelude.{Option, Some, None}
use Rattle.words.specs.Bytes.{le32}
use Rattle.words.specs.Status.{given, or_else}
use Rattle.words.proofs.ChoiceLaws.{cond_upto, or_else_upto, lowest_upto}
use Rattle.dib.specs.HeaderStatus.{bad_header, bad_masks, bits_needed, dib_status}
use Rattle.emr.specs.declared.Row.{Row}
use Rattle.emr.specs.FrameStatus.{bad_length, bad_type, bad_size, frame_status, any_outside, unreadable, parts_status}
use Rattle.emr.specs.SharedParts.{shared_parts, Apart}
use Rattle.emr.proofs.SharedPartsLaws.{says_refusal_21}
use Rattle.judge.specs.declared.Picture.{Picture}
use Rattle.judge.specs.declared.Record.{Record}
use Rattle.judge.specs.Record.{row_in, fields_in, record_of}
use Rattle.judge.specs.Operation.{bad_operation, bad_mask}
use Rattle.judge.specs.Check.{picture_status, dibs_status, bad_geometry, call_status, later_status, status_of}
use Rattle.judge.specs.SharedBytes.{parts_named, SharesBytes, before21, after21, SharedBytes}

-- ---- the other statuses are below 21

-- three statuses in a row
three_upto : (a b c : ℕ) (t u v : Bool) {n : ℕ} → a ≤ n → b ≤ n → c ≤ n → given a t (given b u (given c v 0)) ≤ n
three_upto a b c t u v h l m = cond_upto t a _ h (cond_upto u b _ l (cond_upto v c 0 m (omega arith)))

picture_upto : (picture : Option Picture) → picture_status picture ≤ 13
unfolding picture_status dib_status
picture_upto None = zero-le
picture_upto (Some p) =
    let h = p.header in
    three_upto 8 9 10 (bad_header p.bmi_len h) (bad_masks h) (ltb p.bits_len (bits_needed h)) (lit≤ tt) (lit≤ tt) (lit≤ tt)

call_upto : (row : Row) (operation : ℕ) (r : Record) → call_status row operation r ≤ 13
unfolding call_status
call_upto row operation r =
    three_upto 11 12 13 (bad_operation row.form operation r.action r.source) (bad_geometry row.signed r)
    (bad_mask (not (eqb row.at.mask 0)) r.mask) (lit≤ tt) (lit≤ tt) (lit≤ tt)

later_upto : (row : Row) (operation : ℕ) (r : Record) → later_status row operation r ≤ 13
unfolding later_status dibs_status
later_upto row operation r =
    or_else_upto (dibs_status r) (call_status row operation r)
    (lowest_upto (picture_status r.source) (picture_status r.mask) (picture_upto r.source) (picture_upto r.mask)) (call_upto row operation r)

-- ---- the order, by the test's outcome

-- what stands behind 6 in the frame's order stands behind 3 to 6 in the whole order
behind : (frame : ℕ) (out : Bool) (next later : ℕ)
    → or_else (or_else frame (given 6 out next)) later ≡ or_else (or_else frame (given 6 out 0)) (or_else next later)
behind zero true next later = refl
behind zero false next later = refl
behind (suc k) out next later = refl

none_before : (a : ℕ) → a ≤ 6 → or_else a 21 ≡ 21 → a ≡ 0
none_before zero h e = refl
none_before (suc a) h e = absurd (omega arith)

module _ (s : List ℕ) where
  abbrev seven : ℕ
  seven = given 7 (unreadable s (row_in s).at (fields_in s)) 0

  abbrev later : ℕ
  later = later_status (row_in s) (fields_in s).operation (record_of s)

  abbrev outside : Bool
  outside = any_outside (length s) (row_in s).at.fixed (fields_in s)

  order : (t : Bool) → shared_parts (fields_in s) ≡ t → status_of s ≡ or_else (before21 s) (or_else (given 21 t seven) later)
  unfolding status_of parts_status
  order t e =
      behind (frame_status s (row_in s).at) outside (given 21 (shared_parts (fields_in s)) seven) later
      ∙ ap (λ (b : Bool). or_else (before21 s) (or_else (given 21 b seven) later)) e

  before_upto : before21 s ≤ 6
  unfolding frame_status
  before_upto =
      or_else_upto (frame_status s (row_in s).at) (given 6 outside 0)
      (three_upto 3 4 5 (bad_length (length s)) (bad_type (row_in s).at.fixed) (bad_size (le32 s 4) (length s) (row_in s).at.fixed)
      (lit≤ tt) (lit≤ tt) (lit≤ tt)) (cond_upto outside 6 0 (lit≤ tt) (lit≤ tt))

  after_upto : after21 s ≤ 13
  after_upto =
      or_else_upto seven later (cond_upto (unreadable s (row_in s).at (fields_in s)) 7 0 (lit≤ tt) (lit≤ tt))
      (later_upto (row_in s) (fields_in s).operation (record_of s))

  refused : SharesBytes s → status_of s ≡ or_else (before21 s) 21
  refused c = order true ((says_refusal_21 (fields_in s)).only c)

  -- two parts have a byte in common, or the test fails
  by_test : {C : Type 0} → (SharesBytes s → C) → (shared_parts (fields_in s) ≡ false → C) → C
  by_test {C} some none = go (shared_parts (fields_in s)) refl
    where
      go : (t : Bool) → shared_parts (fields_in s) ≡ t → C
      go true e = some ((says_refusal_21 (fields_in s)).some e)
      go false e = none e

  passed : Apart (parts_named s) → status_of s ≡ or_else (before21 s) (after21 s)
  passed a = by_test (λ c. absurd (a c.one c.other c.different c.place c.in_one c.in_other)) (order false)

  only : status_of s ≡ 21 → (before21 s ≡ 0) × SharesBytes s
  only e =
      by_test (λ c. (none_before (before21 s) before_upto (sym (refused c) ∙ e), c))
      (λ n. let h : or_else (before21 s) (after21 s) ≤ 13 = or_else_upto (before21 s) (after21 s) (omega (arith, before_upto)) after_upto in
      let w : or_else (before21 s) (after21 s) ≡ 21 = sym (order false n) ∙ e in absurd (omega arith))

  pub shared_bytes : SharedBytes s
  shared_bytes = record { refused = refused; passed = passed; only = only }
