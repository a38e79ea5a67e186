-- What the painting loop's proofs cite.
pub mod TurnLaws
