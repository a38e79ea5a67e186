-- Document 01, "The journal": its records as numbers and as bytes, and what a play saves. Definitions only.
use Rattle.std.specs.Prelude.{◌≡◌, ℕ, zero, suc, ◌+◌, ◌*◌, List, [], ◌∷◌, ◌++◌, get_or}
use Rattle.std.proofs.lemmas.List.Edits.{sets}
use Rattle.words.specs.Bytes.{le32, bytes32}
use Rattle.region.specs.Target.{Point}
use Rattle.journal.specs.Drawing.{pixel_index, Paint, dot, drawn}
use Rattle.journal.specs.declared.Entry.{Entry as Declared}

-- "Records of 12 bytes, no header: three 32-bit numbers."
abbrev pub stride : ℕ
stride = 12

abbrev pub Entry : Type 0
Entry = Declared

abbrev pub entry : (first second third : ℕ) → Entry
entry first second third = record { first = first; second = second; third = third }

abbrev pub entry_bytes : (first second third : ℕ) → List ℕ
entry_bytes first second third = bytes32 first ++ (bytes32 second ++ bytes32 third)

unfoldable pub bytes_of : List Entry → List ℕ
bytes_of [] = []
bytes_of (e ∷ es) = entry_bytes e.first e.second e.third ++ bytes_of es

-- "Pixel record: x, y, old pixel; row by row, left to right": of each point, the pixel as it is when its turn comes
unfoldable pub saved : (width : ℕ) → Paint → List Point → List ℕ → List Entry
saved width paint [] s = []
saved width paint (p ∷ ps) s = entry p.x p.y (get_or s (pixel_index width p.x p.y) 0) ∷ saved width paint ps (dot width paint p.x p.y s)

-- what drawing these points leaves: the surface with them drawn, and the journal with their old pixels saved from record `at` on
abbrev pub DrawnAndSaved : (width at : ℕ) → Paint → List Point → (surface journal surface_after journal_after : List ℕ) → Type 0
DrawnAndSaved width at paint points surface journal surface_after journal_after =
    (surface_after ≡ drawn width paint points surface) × (journal_after ≡ sets journal (at * stride) (bytes_of (saved width paint points surface)))

-- "Closing record: 0xFFFFFFFF, number of pixel records, record type." No pixel record begins so: no column is as large.
abbrev pub mark : ℕ
mark = 0xFFFFFFFF

abbrev pub closing : (count kind : ℕ) → Entry
closing count kind = entry mark count kind

-- record i of a journal's bytes
abbrev pub entry_at : (journal : List ℕ) (i : ℕ) → Entry
entry_at j i = entry (le32 j (i * stride)) (le32 j (i * stride + 4)) (le32 j (i * stride + 8))

-- n records of a journal, from record i on
unfoldable pub entries_at : (journal : List ℕ) (i n : ℕ) → List Entry
entries_at j i zero = []
entries_at j i (suc n) = entry_at j i ∷ entries_at j (suc i) n
