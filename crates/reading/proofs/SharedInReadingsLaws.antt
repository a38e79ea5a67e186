-- A reading asks for the check's answer, whose number is the record's status: 21 or one before it. Assumes nothing.
use mathlib.Core.Path.{◌≡◌, refl, sym, ap, ◌∙◌}
use mathlib.Core.Bool.{Bool}
use mathlib.Core.List.{List}
use Prim.Native.Nat.{ℕ, zero, suc}
use Rattle.std.specs.Prelude.{Option, Some, None, Err}
use Rattle.std.specs.Option.{ok_or}
use Rattle.words.specs.Status.{or_else}
use Rattle.judge.specs.declared.Record.{Record}
use Rattle.judge.specs.declared.Picture.{Picture}
use Rattle.judge.specs.Record.{record_of}
use Rattle.judge.specs.Check.{status_of, settled, check_of}
use Rattle.judge.specs.SharedBytes.{SharesBytes, before21}
use Rattle.judge.proofs.SharedBytesLaws.{shared_bytes}
use Rattle.picture.specs.Shown.{black}
use Rattle.reading.specs.Reading.{wanted, found_in, found_of, reading_from, empty_reading, reading_of, palette_from, read_palette}
use Rattle.reading.specs.SharedInReadings.{SharedInReadings}

nothing_found : (mask : Bool) (early : ℕ) (r : Record) → found_in mask (settled (or_else early 21) r) ≡ Err (or_else early 21)
nothing_found mask zero r = refl
nothing_found mask (suc k) r = refl

found : (s : List ℕ) (mask : Bool) → SharesBytes s → found_of s mask ≡ Err (or_else (before21 s) 21)
unfolding found_of check_of
found s mask c =
    ap (λ (k : ℕ). found_in mask (settled k (record_of s))) ((shared_bytes s).refused c) ∙ nothing_found mask (before21 s) (record_of s)

-- an accepted record's reading has status 0, whether the picture is there or not
accepted_number : (found : Option Picture) → (reading_from (ok_or found 0)).status ≡ 0
accepted_number None = refl
accepted_number (Some p) = refl

number_of : (k : ℕ) (mask : Bool) (r : Record) → (reading_from (found_in mask (settled k r))).status ≡ k
number_of zero mask r = accepted_number (wanted mask r)
number_of (suc k) mask r = refl

refused : (s : List ℕ) (mask : Bool) → SharesBytes s → reading_of s mask ≡ empty_reading (or_else (before21 s) 21)
unfolding reading_of
refused s mask c = ap reading_from (found s mask c)

no_colours : (s : List ℕ) (mask : Bool) → SharesBytes s → read_palette s mask ≡ black
unfolding read_palette
no_colours s mask c = ap (palette_from s) (found s mask c)

only : (s : List ℕ) (mask : Bool) → (reading_of s mask).status ≡ 21 → SharesBytes s
unfolding reading_of found_of check_of
only s mask e = ((shared_bytes s).only (sym (number_of (status_of s) mask (record_of s)) ∙ e)).1

pub shared_in_readings : SharedInReadings
shared_in_readings = record { refused = refused; no_colours = no_colours; only = only }
