-- An accepted record is good: every test of 6, 21, 8, 9, 10 and 12 was passed, and each says one field of `Good`. Assumes nothing.
use mathlib.Core.Path.{◌≡◌, refl, sym, ap, ◌∙◌, subst}
use mathlib.Core.Bool.{Bool, false, true≢false, ◌||◌}
use mathlib.Core.List.{List}
use Prim.Native.Nat.{ℕ, zero, suc, ◌+◌, ◌≤◌}
use native.Mathlib.Omega.{arith}
use lib.Dec.{lit<, ltb}
use lib.ListN.{length}
use borrow.Author.Tests.{ltb-false}
use Rattle.words.proofs.ChoiceLaws.{given_none, or_else_none, lowest_none, or_none}
use Rattle.dib.specs.HeaderStatus.{bad_header, bad_masks, bits_needed, dib_status}
use Rattle.emr.specs.declared.Row.{Row}
use Rattle.emr.specs.declared.Fields.{Fields}
use Rattle.emr.specs.FrameStatus.{frame_status, parts_status}
use Rattle.emr.specs.declared.PictureFields.{PictureFields}
use Rattle.emr.specs.SharedParts.{Apart, header_range as header_named, bits_range as bits_named}
use Rattle.emr.proofs.FrameLaws.{Inside, inside, parts_apart}
use Rattle.judge.specs.declared.Picture.{Picture}
use Rattle.judge.specs.declared.Record.{Record}
use Rattle.std.specs.Prelude.{Option, Some, None, is_some, Ok}
use Rattle.std.specs.Option.{ForSome}
use Rattle.judge.specs.Operation.{bad_operation}
use Rattle.judge.specs.Geometry.{bad_target, bad_signs}
use Rattle.judge.specs.Record.{header_in, picture_with, picture_in, row_in, fields_in, record_of}
use Rattle.judge.specs.Check.{picture_status, dibs_status, outside_picture, far_mask, bad_geometry, call_status, later_status, status_of, settled, check_of}
use Rattle.judge.specs.Good.{Fit, header_range, bits_range, parts_in, Good}

picture_fit : (len : ℕ) (p : Picture) → p.bmi + p.bmi_len ≤ len → p.bits + p.bits_len ≤ len → picture_status (Some p) ≡ 0 → Fit len p
unfolding picture_status dib_status
picture_fit len p h b e =
    let a = given_none 8 (bad_header p.bmi_len p.header) _ (lit< tt) e in
    let m = given_none 9 (bad_masks p.header) _ (lit< tt) a.1 in
    let c = given_none 10 (ltb p.bits_len (bits_needed p.header)) 0 (lit< tt) m.1 in
    record {
      header_read = h;
      bits_in = b;
      sound = record { header_ok = a.0; masks_ok = m.0; rows_ok = ltb-false p.bits_len _ c.0 };
    }

-- a picture whose fields lie in the record
module _ (s : List ℕ) where
  fit : (len : ℕ) (p : Option PictureFields) → Inside len p → picture_status (picture_in s p) ≡ 0 → ForSome (picture_in s p) (Fit len)
  fit len None i e q z = absurd (true≢false cc)
  fit len (Some p) i e q z =
      let same : picture_with p (header_in s p) ≡ q = cc in
      subst (Fit len) same (picture_fit len _ i.header i.bits e)

  -- its parts are those that its fields name
  header_same : (p : Option PictureFields) → header_range (picture_in s p) ≡ header_named p
  header_same None = refl
  header_same (Some p) = refl

  bits_same : (p : Option PictureFields) → bits_range (picture_in s p) ≡ bits_named p
  bits_same None = refl
  bits_same (Some p) = refl

accepted_is : (k : ℕ) (r q : Record) → Ok r ≡ settled k q → (k ≡ 0) × (r ≡ q)
accepted_is zero r q e = (refl, cc)
accepted_is (suc k) r q e = let z : ◌≡◌ {A = ℕ} 0 1 = cc in absurd (omega arith)

-- a record whose geometry 12 lets pass
module _ (signed : Bool) (r : Record) where
  abbrev early : Bool
  early = bad_target r.x r.y r.cx r.cy || bad_signs signed (is_some r.source) r.cx r.cy r.cx_src r.cy_src

  geometry_parts : bad_geometry signed r ≡ false → (early ≡ false) × (outside_picture r.source r.cx_src r.cy_src ≡ false)
  unfolding bad_geometry
  geometry_parts e = or_none early _ (or_none (early || outside_picture r.source r.cx_src r.cy_src) (far_mask r.mask) e).0

-- a record that 8 to 13 let pass, with its parts inside and apart
good : (row : Row) (operation : ℕ) (r : Record) (len : ℕ)
    → (later_status row operation r ≡ 0) → (picture_status r.source ≡ 0 → ForSome r.source (Fit len))
    → (picture_status r.mask ≡ 0 → ForSome r.mask (Fit len))
    → Apart (parts_in r) → Good len r
unfolding later_status dibs_status call_status
good row operation r len e source mask apart =
    let d = or_else_none (dibs_status r) (call_status row operation r) e in
    let l = lowest_none (picture_status r.source) (picture_status r.mask) d.0 in
    let b = given_none 11 (bad_operation row.form operation r.action r.source) _ (lit< tt) d.1 in
    let c = given_none 12 (bad_geometry row.signed r) _ (lit< tt) b.1 in
    let g = geometry_parts row.signed r c.0 in
    record {
      source = source l.0;
      mask = mask l.1;
      apart = apart;
      target = (or_none (bad_target r.x r.y r.cx r.cy) _ g.0).0;
      inside = λ p q. sym (ap (λ (source : Option Picture). outside_picture source r.cx_src r.cy_src) q) ∙ g.1;
    }

pub accepted : (s : List ℕ) (r : Record) → Ok r ≡ check_of s → (r ≡ record_of s) × Good (length s) r
unfolding check_of status_of record_of
accepted s r e =
    let a = accepted_is (status_of s) r (record_of s) e in
    let h = or_else_none _ (later_status (row_in s) (fields_in s).operation (record_of s)) a.0 in
    let p = or_else_none (frame_status s (row_in s).at) (parts_status s (row_in s).at (fields_in s)) h.0 in
    let i = inside s (row_in s).at p.1 in
    let f : Fields = fields_in s in
    let apart : Apart (parts_in (record_of s)) =
    rw (header_same s f.source, bits_same s f.source, header_same s f.mask, bits_same s f.mask) (parts_apart s (row_in s).at f p.1) in
    let g : Good (length s) (record_of s) =
    good (row_in s) f.operation (record_of s) (length s) h.1 (fit s (length s) f.source i.0) (fit s (length s) f.mask i.1) apart in
    (a.1, rw a.1 g)
