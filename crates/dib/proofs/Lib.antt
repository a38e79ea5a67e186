-- What the proofs on headers cite.
pub mod HeaderLaws
