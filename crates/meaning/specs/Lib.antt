pub mod Sampling
pub mod Rows
pub mod Meaning
pub mod SignedSampling
