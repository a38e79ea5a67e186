-- What the C calls' proofs cite.
pub mod NumberLaws
