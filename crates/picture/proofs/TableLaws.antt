-- The table of a palette lies in its header part, because status 8 measured it. Assumes nothing.
use mathlib.Core.Path.{◌≡◌, refl, ap, ap₂, ◌∙◌}
use mathlib.Core.Bool.{false}
use mathlib.Core.List.{List}
use Prim.Native.Nat.{ℕ, ◌+◌, ◌-◌, ◌*◌, ◌≤◌, zero-le}
use native.Mathlib.Omega.{arith}
use lib.Dec.{leb, ltb}
use lib.ListN.{length, take, drop, length-take, length-drop}
use lib.Seq.{take_all}
use borrow.Author.Tests.{ltb-false}
use Rattle.words.specs.Tabulated.{tabulate}
use Rattle.words.proofs.ChoiceLaws.{or_none, cond_upto}
use Rattle.dib.specs.declared.Header.{Header}
use Rattle.dib.specs.Header.{table_start, entries}
use Rattle.dib.specs.HeaderStatus.{bad_fields, bad_header}
use Rattle.sample.specs.Palette.{palette_of}
use Rattle.picture.specs.Shown.{black, shown_entries, header_palette}

-- a header part that status 8 lets pass has room for its table
pub table_room : (len : ℕ) (h : Header) → bad_header len h ≡ false → table_start h + 4 * entries h ≤ len
unfolding bad_header
table_room len h e = ltb-false len _ (or_none (bad_fields h) (ltb len (table_start h + 4 * entries h)) e).1

-- the palette shows all of them, or none
pub shown_some : (h : Header) → shown_entries h ≤ entries h
shown_some h = cond_upto (leb h.bits 8) (entries h) 0 (omega arith) zero-le

-- a palette of no entries is black
pub no_colours : (table : List ℕ) → palette_of table 0 ≡ black
unfolding palette_of tabulate
no_colours table = refl

-- the rest of a list from a place on, as a slice of it is
abbrev pub rest : List ℕ → (from : ℕ) → List ℕ
rest l from = take (length l - from) (drop from l)

module _ (l : List ℕ) (from : ℕ) where
  pub table_in : (n : ℕ) → from + 4 * n ≤ length l → n * 4 ≤ length (rest l from)
  table_in n h = simp (length-take, length-drop) (omega arith)

  pub rest_is : from ≤ length l → rest l from ≡ drop from l
  rest_is h = take_all (length l - from) (drop from l) (simp length-drop (omega arith))

-- a header part's palette, from the rest of it behind the header
module _ (l : List ℕ) (h : Header) (e : bad_header (length l) h ≡ false) (n from : ℕ) (c : from ≡ table_start h) (q : n ≡ shown_entries h) where
  pub entries_in : from + 4 * n ≤ length l
  entries_in = omega (arith, table_room (length l) h e, shown_some h)

  pub table_palette : palette_of (rest l from) n ≡ header_palette l h
  unfolding header_palette
  table_palette = ap₂ palette_of (rest_is l from (omega (arith, entries_in)) ∙ ap (λ (k : ℕ). drop k l) c) q
