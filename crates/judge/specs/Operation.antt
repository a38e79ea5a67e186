-- Document 01: the operation field, and refusals 11 and 13. Definitions only.
use Rattle.std.specs.Prelude.{ℕ, ◌/◌, ◌%◌, Bool, true, false, cond, not, ◌&&◌, ◌||◌, eqb, ltb, Option, Some, None}
use Rattle.pixel.specs.Raster.{needs_source}
use Rattle.dib.specs.declared.Header.{Header}
use Rattle.emr.specs.declared.Form.{Form}
use Rattle.emr.specs.declared.Form.TheVariants.{Blend, Rop4, Rop}
use Rattle.judge.specs.declared.Picture.{Picture}
use Rattle.judge.specs.declared.Action.{Action}
use Rattle.judge.specs.declared.Action.TheVariants.{Blend0, Blend1, Masked, Raster}

-- "The blend field's bytes in order: operation, flags (ignored), constant alpha, format."
abbrev pub blend_operation : ℕ → ℕ
blend_operation field = field % 256

abbrev pub constant_alpha : ℕ → ℕ
constant_alpha field = field / 65536 % 256

abbrev pub alpha_format : ℕ → ℕ
alpha_format field = field / 16777216

-- Document 02, item 2: "MAKEROP4 in the Windows header wingdi.h puts the foreground in bits 16 to 23 and the background in bits 24 to 31. From
-- now on the third byte is the foreground, the fourth the background; wingdi.h decides." The first two are ignored.
abbrev pub foreground : ℕ → ℕ
foreground field = field / 65536 % 256

abbrev pub background : ℕ → ℕ
background field = field / 16777216

-- "A plain ROP uses bits 16..23 of its field."
abbrev pub rop : ℕ → ℕ
rop field = field / 65536 % 256

-- what is done to a pixel, by what the field holds
abbrev pub action_of : Form → (field : ℕ) → Action
action_of Blend field = cond (eqb (alpha_format field) 1) (Blend1 (constant_alpha field)) (Blend0 (constant_alpha field))
action_of Rop4 field = Masked (foreground field) (background field)
action_of Rop field = Raster (rop field)

abbrev pub is_blend : Form → Bool
is_blend Blend = true
is_blend Rop4 = false
is_blend Rop = false

-- "32 bits and an alpha (BI_RGB or a non-zero alpha mask)"
abbrev pub has_alpha : Header → Bool
has_alpha h = eqb h.bits 32 && (eqb h.compression 0 || not (eqb h.masks.alpha 0))

-- "blend operation not 0; format above 1; format 1 without 32 bits and an alpha"
abbrev pub bad_blend : (field : ℕ) → Header → Bool
bad_blend field h = not (eqb (blend_operation field) 0) || ltb 1 (alpha_format field) || eqb (alpha_format field) 1 && not (has_alpha h)

-- "source needed ..: 0x72 always; MASKBLT if either byte needs it"
abbrev pub reads_source : Action → Bool
reads_source (Blend0 c) = true
reads_source (Blend1 c) = true
reads_source (Masked f b) = needs_source f || needs_source b
reads_source (Raster op) = needs_source op

-- 11: "source needed and absent", as each blend's is, or a bad blend
abbrev pub bad_operation : Form → (field : ℕ) → Action → (source : Option Picture) → Bool
bad_operation form field a None = reads_source a
bad_operation form field a (Some p) = is_blend form && bad_blend field p.header

-- 13: "MASKBLT mask absent or not 1 bit", of a type that has a mask
abbrev pub bad_mask : (has_mask : Bool) → Option Picture → Bool
bad_mask has_mask None = has_mask
bad_mask has_mask (Some p) = has_mask && not (eqb p.header.bits 1)
