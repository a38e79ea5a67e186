-- A reading's parts lie in its record, so they are as long as the reading says, and the line of a whole reading's parts is the reading's line.
use mathlib.Core.Path.{◌≡◌, refl, ap, subst}
use mathlib.Core.Bool.{Bool}
use mathlib.Core.List.{List}
use Prim.Native.Nat.{ℕ, ◌+◌, ◌≤◌}
use native.Mathlib.Omega.{arith}
use lib.ListN.{length, length-take, length-drop}
use denote.Ref.{Bor}
use Rattle.words.specs.Bytes.{part_of}
use Rattle.std.specs.Prelude.{Option, Some, None, Result, Ok, Err}
use Rattle.judge.specs.declared.Picture.{Picture}
use Rattle.judge.specs.declared.Record.{Record}
use Rattle.judge.specs.Check.{check_of}
use Rattle.reading.specs.declared.Reading.{Reading}
use Rattle.reading.specs.Reading.{reading_of, header_bytes, view_bytes, empty_reading, full_reading, wanted, Within, IsReading}
use Rattle.reading.proofs.ReadingLaws.{answers_refused, answers_present, answers_none}
use Rattle.view.specs.declared.View.{View}
use Rattle.view.specs.declared.Whole.{Whole}
use Rattle.view.specs.View.{IsWhole}
use Rattle.script_calls.specs.Asked.{line_parts, read_line}

found : (s : List ℕ) (mask : Bool) (v : Result Record ℕ) → v ≡ check_of s → (r : Reading) × IsReading s mask r
found s mask (Err k) e = (empty_reading k, answers_refused s mask (Err k) e (empty_reading k) k refl refl)
found s mask (Ok r) e = by_wanted (wanted mask r) refl
  where
    by_wanted : (o : Option Picture) → wanted mask r ≡ o → (d : Reading) × IsReading s mask d
    by_wanted None w = (empty_reading 0, answers_none s mask (Ok r) e (empty_reading 0) r refl w refl)
    by_wanted (Some p) w = (full_reading p, answers_present s mask (Ok r) e (full_reading p) r refl p w refl)

reading_within : (s : List ℕ) (mask : Bool) → Within (length s) (reading_of s mask)
reading_within s mask = let f = found s mask (check_of s) refl in subst (Within (length s)) f.1.answer f.1.within

part_length : (s : List ℕ) (at len : ℕ) → at + len ≤ length s → length (part_of s at len) ≡ len
part_length s at len h = simp (length-take, length-drop) (omega arith)

-- a reading's line, from the whole reading's parts
pub line_read : (s : Bor (List ℕ)) (mask : Bool) (w : Whole) → IsWhole s mask w → (n : List ℕ)
    → n ≡ line_parts w.status w.header.now w.view.bytes.now w.view.width w.view.rows w.view.layout w.palette
    → n ≡ read_line s.now mask
unfolding read_line header_bytes view_bytes
line_read s mask w e n made =
    let r : Reading = reading_of s.now mask in
    let within : Within (length s.now) r = reading_within s.now mask in
    let v : w.view.width ≡ r.width = ap (λ (x : View). x.width) e.view.numbers in
    let t : w.view.rows ≡ r.rows = ap (λ (x : View). x.rows) e.view.numbers in
    cc (part_length s.now _ _ within.header, part_length s.now _ _ within.view, ap (λ (x : View). x.layout) e.view.numbers)
