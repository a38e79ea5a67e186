-- Document 01, "Pixel numbers": "document 001's copy-or-keep is the case 0xCC over 0xAA". The foreground byte 0xCC, used at mask bit 1,
-- copies the source's colour, and the background byte 0xAA, used at 0, keeps the target's, whatever the brush is.
-- That they do is `copy_or_keep` in proofs/CopyOrKeepLaws.antt.
use Rattle.std.specs.Prelude.{◌≡◌, ℕ, ◌%◌, ◌^◌}
use Rattle.pixel.specs.Raster.{raster}

pub record CopyOrKeep : Type 0 where
  pub copies : (brush source target : ℕ) → raster 0xCC brush source target ≡ source % 2 ^ 24
  pub keeps : (brush source target : ℕ) → raster 0xAA brush source target ≡ target % 2 ^ 24
