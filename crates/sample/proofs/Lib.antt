-- What the proofs on stored pixels cite: masks and channels, the palette, and where a pixel's bytes lie.
pub mod ColourLaws
pub mod PaletteLaws
pub mod AtLaws
