-- Document 01, "Reading a picture": "The palette read out is a table of 256 colours, black before it is filled; an index past the
-- given entries shows black. Each is red·2^16 + green·2^8 + blue." Definitions only.
use Rattle.std.specs.Prelude.{cond, ℕ, ◌*◌, List, ltb}
use Rattle.words.specs.Bytes.{le24}
use Rattle.words.specs.Tabulated.{tabulate}

-- "The colour table ..: blue, green, red, unused byte", four bytes an entry
unfoldable pub entry_colour : (table : List ℕ) (k : ℕ) → ℕ
entry_colour table k = le24 table (k * 4)

-- the palette of a table with n entries
unfoldable pub palette_of : (table : List ℕ) (n : ℕ) → List ℕ
palette_of table n = tabulate 256 (λ k. cond (ltb k n) (entry_colour table k) 0)
