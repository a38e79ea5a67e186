-- What the proofs on sampled rows cite: columns, what acceptance says of extents, rows, mask bits, constant alphas,
-- and the sampling over signed numbers.
pub mod ColumnLaws
pub mod FitLaws
pub mod FilledRowLaws
pub mod MaskBitLaws
pub mod ConstantAlphaLaws
pub mod SignedSamplingLaws
