-- A record as one value: its headers read, its operation decoded. Definitions only.
use Rattle.std.specs.Prelude.{ℕ, List, Option, Some, None}
use Rattle.words.specs.Bytes.{part_of, le32}
use Rattle.dib.specs.declared.Header.{Header}
use Rattle.dib.specs.Header.{header_of}
use Rattle.emr.specs.declared.PictureFields.{PictureFields}
use Rattle.emr.specs.declared.Fields.{Fields}
use Rattle.emr.specs.declared.Row.{Row}
use Rattle.emr.specs.Types.{row_of}
use Rattle.emr.specs.Fixed.{fields_at}
use Rattle.judge.specs.declared.Picture.{Picture}
use Rattle.judge.specs.declared.Record.{Record}
use Rattle.judge.specs.Operation.{action_of}

-- the header of a picture's header part
abbrev pub header_in : List ℕ → PictureFields → Header
header_in s p = header_of (part_of s p.bmi p.bmi_len)

abbrev pub picture_with : PictureFields → Header → Picture
picture_with p h = record {
  x = p.x;
  y = p.y;
  header = h;
  bmi = p.bmi;
  bmi_len = p.bmi_len;
  bits = p.bits;
  bits_len = p.bits_len;
}

-- a picture that is present, with its header
abbrev pub picture_in : List ℕ → Option PictureFields → Option Picture
picture_in s None = None
picture_in s (Some p) = Some (picture_with p (header_in s p))

-- the corners as written, of an absent picture too
abbrev pub record_with : List ℕ → (type : ℕ) → Row → Fields → Record
record_with s type row f = record {
  kind = type;
  bounds = f.bounds;
  x = f.x;
  y = f.y;
  cx = f.cx;
  cy = f.cy;
  x_src = f.x_src;
  y_src = f.y_src;
  cx_src = f.cx_src;
  cy_src = f.cy_src;
  action = action_of row.form f.operation;
  source = picture_in s f.source;
  mask = picture_in s f.mask;
  x_mask = f.x_mask;
  y_mask = f.y_mask;
}

-- the table's row of a record's type, and its fields
abbrev pub row_in : List ℕ → Row
row_in s = row_of (le32 s 0)

abbrev pub fields_in : List ℕ → Fields
fields_in s = fields_at s (row_in s).at

unfoldable pub record_of : List ℕ → Record
record_of s = record_with s (le32 s 0) (row_in s) (fields_in s)

-- the header part: "all cbBmi bytes where they stand"; and the whole bits part
unfoldable pub header_part : List ℕ → Picture → List ℕ
header_part s p = part_of s p.bmi p.bmi_len

unfoldable pub bits_part : List ℕ → Picture → List ℕ
bits_part s p = part_of s p.bits p.bits_len
