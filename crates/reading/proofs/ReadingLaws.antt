-- What is read of the picture that is asked for: it fits its record, so its parts lie in it, its table in its header part, and its palette
-- is the one that its numbers show. Where there is none, all is empty and black. Assumes nothing.
use mathlib.Core.Path.{◌≡◌, sym, ap, ◌∙◌}
use mathlib.Core.Bool.{Bool, true, false}
use mathlib.Core.List.{List}
use Prim.Native.Nat.{ℕ, ◌+◌, ◌*◌, ◌≤◌, zero-le}
use native.Mathlib.Omega.{arith}
use lib.ListN.{length, drop, length-take, length-drop}
use Rattle.words.specs.Bytes.{part_of}
use Rattle.dib.specs.HeaderStatus.{bad_fields}
use Rattle.dib.proofs.HeaderLaws.{passed_fields, entries_bound}
use Rattle.sample.specs.Palette.{palette_of}
use Rattle.judge.specs.declared.Picture.{Picture}
use Rattle.judge.specs.declared.Record.{Record}
use Rattle.judge.specs.Record.{header_part}
use Rattle.std.specs.Prelude.{Option, Some, None, Result, Ok, Err}
use Rattle.std.specs.Option.{ForSome, ok_or}
use Rattle.judge.specs.Check.{check_of}
use Rattle.judge.specs.Good.{Fit, Good}
use Rattle.judge.proofs.AcceptedLaws.{accepted}
use Rattle.picture.specs.Shown.{header_palette}
use Rattle.picture.proofs.TableLaws.{table_room, shown_some, no_colours, rest, rest_is}
use Rattle.reading.specs.declared.Reading.{Reading}
use Rattle.reading.specs.Reading.{wanted, empty_reading, full_reading, found_in, found_of, reading_of, reading_from, read_palette}
use Rattle.reading.specs.Reading.{palette_from, header_bytes, shown_palette, Within, IsReading}

wanted_fit : {len : ℕ} (mask : Bool) (r : Record) → Good len r → ForSome (wanted mask r) (Fit len)
wanted_fit true r g = g.mask
wanted_fit false r g = g.source

-- ---- a picture that is there, and none

module _ (s : List ℕ) (mask : Bool) (p : Picture) (f : Fit (length s) p) where
  pub picture_fields : bad_fields p.header ≡ false
  picture_fields = passed_fields _ p.header f.sound.header_ok

  full_within : Within (length s) (full_reading p)
  full_within =
      let few = entries_bound p.header picture_fields in
      record {
        header = f.header_read;
        view = omega (arith, f.bits_in, f.sound.rows_ok);
        table = omega (arith, table_room p.bmi_len p.header f.sound.header_ok, shown_some p.header);
        few = omega (arith, few, shown_some p.header);
      }

  pub reading_present : found_of s mask ≡ Ok p → IsReading s mask (full_reading p)
  unfolding reading_of read_palette shown_palette header_bytes header_part header_palette
  reading_present e = record { answer = sym (ap reading_from e); within = full_within; palette = sym (ap (palette_from s) e) }

pub reading_none : (s : List ℕ) (mask : Bool) (k : ℕ) → found_of s mask ≡ Err k → IsReading s mask (empty_reading k)
unfolding reading_of read_palette shown_palette
reading_none s mask k e = record {
  answer = sym (ap reading_from e);
  within = record { header = zero-le; view = zero-le; table = zero-le; few = zero-le };
  palette = no_colours _ ∙ sym (ap (palette_from s) e);
}

-- ---- which it is, by what the code knows at each return

module _ (s : List ℕ) (mask : Bool) (v : Result Record ℕ) (e : v ≡ check_of s) (d : Reading) where
  pub answers_refused : (k : ℕ) → v ≡ Err k → d ≡ empty_reading k → IsReading s mask d
  unfolding found_of
  answers_refused k q g = rw g (reading_none s mask k (ap (found_in mask) (sym e ∙ q)))

  module _ (r : Record) (q : v ≡ Ok r) where
    found_is : {o : Option Picture} → wanted mask r ≡ o → found_of s mask ≡ ok_or o 0
    unfolding found_of
    found_is w = ap (found_in mask) (sym e ∙ q) ∙ ap (λ (o : Option Picture). ok_or {E = ℕ} o 0) w

    module _ (p : Picture) (w : wanted mask r ≡ Some p) where
      read_fit : Fit (length s) p
      read_fit = wanted_fit mask r (accepted s r (sym q ∙ e)).1 p w

      pub answers_fields : bad_fields p.header ≡ false
      answers_fields = picture_fields s mask p read_fit

      pub answers_present : d ≡ full_reading p → IsReading s mask d
      answers_present g = rw g (reading_present s mask p read_fit (found_is w))

    pub answers_none : wanted mask r ≡ None → d ≡ empty_reading 0 → IsReading s mask d
    answers_none w g = rw g (reading_none s mask 0 (found_is w))

-- ---- the palette, from the header part that was taken

module _ (s : List ℕ) (r : Reading) (w : Within (length s) r) (header : List ℕ) (e : header ≡ part_of s r.header_at r.header_len) where
  pub entries_inside : r.table_at + 4 * r.colours ≤ length header
  entries_inside = rw e (simp (length-take, length-drop) (omega (arith, w.header, w.table)))

  pub palette_is : (d : List ℕ) → d ≡ palette_of (rest header r.table_at) r.colours → d ≡ shown_palette s r
  unfolding shown_palette header_bytes
  palette_is d g =
      let in_header : r.table_at ≤ length header = omega (arith, entries_inside) in
      g ∙ ap (λ (l : List ℕ). palette_of l r.colours) (rest_is header r.table_at in_header ∙ ap (drop r.table_at) e)
