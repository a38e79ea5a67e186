-- Document 01, "Reading a picture": the number that a row's bytes hold for a pixel, by the bits of a pixel. Definitions only.
use Rattle.std.specs.Prelude.{ℕ, ◌-◌, ◌*◌, ◌/◌, ◌%◌, ◌^◌, Bool, cond, List, eqb}
use Rattle.words.specs.Bytes.{byte_at, part_of, le16, le24, le32}

-- "1 bit: the high bit is leftmost."
unfoldable pub stored1 : (row : List ℕ) (column : ℕ) → ℕ
stored1 row column = byte_at row (column / 8) / 2 ^ (7 - column % 8) % 2

-- "4 bits: the high half is first."
unfoldable pub stored4 : (row : List ℕ) (column : ℕ) → ℕ
stored4 row column = cond (eqb (column % 2) 0) (byte_at row (column / 2) / 16) (byte_at row (column / 2) % 16)

-- 8, 16, 24 and 32 bits: as many whole bytes, the lowest first
unfoldable pub stored : (bits : ℕ) (row : List ℕ) (column : ℕ) → ℕ
stored bits row column =
    cond (eqb bits 1) (stored1 row column)
    (cond (eqb bits 4) (stored4 row column)
    (cond (eqb bits 8) (byte_at row column)
    (cond (eqb bits 16) (le16 row (column * 2))
    (cond (eqb bits 24) (le24 row (column * 3))
    (le32 row (column * 4))))))

-- "Positive height: the last stored row is the top one."
unfoldable pub stored_row : (top_down : Bool) (rows row : ℕ) → ℕ
stored_row top_down rows row = cond top_down row (rows - 1 - row)

-- the bytes of a stored row, each row of the picture being so long
unfoldable pub row_bytes : (bytes : List ℕ) (row_length row : ℕ) → List ℕ
row_bytes bytes row_length row = part_of bytes (row * row_length) row_length
