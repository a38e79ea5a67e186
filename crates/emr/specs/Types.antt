-- Document 01, "Byte places", as one table: a row for each type. Definitions only.
use Rattle.std.specs.Prelude.{◌≡◌, ℕ, ◌≤◌, Bool, true, false, cond, eqb}
use Rattle.emr.specs.declared.Form.{Form}
use Rattle.emr.specs.declared.Form.TheVariants.{Blend, Rop4, Rop}
use Rattle.emr.specs.declared.Offsets.{Offsets}
use Rattle.emr.specs.declared.Row.{Row}

-- "Played: EMR_ALPHABLEND (type 0x72 ..), EMR_MASKBLT (0x4E ..), EMR_STRETCHDIBITS (0x51 ..)."
abbrev pub alpha_blend : ℕ
alpha_blend = 0x72

abbrev pub mask_blt : ℕ
mask_blt = 0x4E

abbrev pub stretch_dibits : ℕ
stretch_dibits = 0x51

abbrev pub offsets : (extent operation corner extent_src transform usage parts mask fixed : ℕ) → Offsets
offsets extent operation corner extent_src transform usage parts mask fixed = record {
  extent = extent;
  operation = operation;
  corner = corner;
  extent_src = extent_src;
  transform = transform;
  usage = usage;
  parts = parts;
  mask = mask;
  fixed = fixed;
}

abbrev row : Offsets → Form → (signed : Bool) → Row
row at form signed = record { at = at; form = form; signed = signed }

-- Type 0, Size 4, Bounds 8..23 and xDest, yDest at 24, 28 are common; behind xMask, yMask stand UsageMask (+ 8) and the mask's four (+ 12).
-- The columns: cxDest · blend, ROP4 or ROP · xSrc · cxSrc ("as target" in 0x4E) · XformSrc · UsageSrc · offBmi .. cbBits · xMask · end of
-- fixed part, 0 where the type has no such field; what its operation field holds; may its extents be negative ("negative extent in 0x72 or
-- 0x4E" is refused)
unfoldable pub row_of : (type : ℕ) → Row
row_of type =
    cond (eqb type alpha_blend) (row (offsets 32 40 44 100 52 80 84 0 108) Blend false)
    (cond (eqb type mask_blt) (row (offsets 32 40 44 32 52 80 84 100 128) Rop4 false)
    (cond (eqb type stretch_dibits) (row (offsets 72 68 32 40 0 64 48 0 80) Rop true)
    (row (offsets 0 0 0 0 0 0 0 0 0) Rop true)))

-- every field begins in the first 128 bytes
pub record Near (f : Offsets) : Type 0 where
  pub extent : f.extent ≤ 128
  pub corner : f.corner ≤ 128
  pub extent_src : f.extent_src ≤ 128
  pub transform : f.transform ≤ 128
  pub parts : f.parts ≤ 128
  pub mask : f.mask ≤ 116

-- r is the type's row
pub record IsRow (type : ℕ) (r : Row) : Type 0 where
  pub row : r ≡ row_of type
  pub near : Near r.at
