-- Document 01, "Reading a picture": the colour and alpha of a stored number. Definitions only.
use Rattle.std.specs.Prelude.{ℕ, ◌+◌, ◌*◌, ◌^◌, ◌≤◌, Bool, cond, ◌&&◌, List, get_or, eqb, leb}
use Rattle.pixel.specs.Blend.{pixel_of}
use Rattle.pixel.specs.Masks.{mask_width, mask_shift, channel_at}
use Rattle.pixel.specs.Widen.{widened}
use Rattle.dib.specs.declared.Masks.{Masks}
use Rattle.dib.specs.declared.Header.{Header}
use Rattle.dib.specs.Header.{has_masks}

-- the channel that a mask picks from n, widened to 8 bits
unfoldable pub channel8 : (mask n : ℕ) → ℕ
channel8 mask n = widened (mask_width mask) (channel_at (mask_width mask) (mask_shift mask) n)

-- the layout that most pictures have: a byte for each channel
abbrev pub byte_masks : (alpha : ℕ) → Masks
byte_masks alpha = record { red = 0xFF0000; green = 0xFF00; blue = 0xFF; alpha = alpha }

-- "BI_RGB 16: blue, green, red of five bits, from the lowest up. BI_RGB 32: blue, green, red, and a high byte that is alpha only
-- under alpha format 1." "24 bits: blue, green, red."
abbrev pub rgb_masks : (bits : ℕ) (format1 : Bool) → Masks
rgb_masks bits format1 = record {
  red = cond (eqb bits 16) 0x7C00 0xFF0000;
  green = cond (eqb bits 16) 0x03E0 0xFF00;
  blue = cond (eqb bits 16) 0x001F 0xFF;
  alpha = cond (format1 && eqb bits 32) 0xFF000000 0;
}

-- the masks in force: under BI_BITFIELDS the header's
abbrev pub masks_in : Header → (format1 : Bool) → Masks
masks_in h format1 = cond (has_masks h.compression) h.masks (rgb_masks h.bits format1)

-- a mask that a channel is read with: 1 to 8 ones
pub record Channel (mask : ℕ) : Type 0 where
  pub some : 1 ≤ mask_width mask
  pub most : mask_width mask ≤ 8

-- masks that a pixel above 8 bits is read with; an alpha may be none
pub record Sampled (m : Masks) : Type 0 where
  pub red : Channel m.red
  pub green : Channel m.green
  pub blue : Channel m.blue
  pub alpha : mask_width m.alpha ≤ 8

-- "Where a layout has no alpha, alpha is 255."
unfoldable pub alpha_of : (mask n : ℕ) → ℕ
alpha_of mask n = cond (eqb mask 0) 255 (channel8 mask n)

-- the pixel that masks make of a stored number
unfoldable pub masked : Masks → (n : ℕ) → ℕ
masked m n = pixel_of (alpha_of m.alpha n) (channel8 m.red n) (channel8 m.green n) (channel8 m.blue n)

-- the pixel of a stored number: by the palette up to 8 bits, by the masks above
unfoldable pub shown : (bits : ℕ) (palette : List ℕ) → Masks → (n : ℕ) → ℕ
shown bits palette m n = cond (leb bits 8) (255 * 2 ^ 24 + get_or palette n 0) (masked m n)
