-- What the proofs on records' fixed parts cite: the table of types, which parts share bytes, and where pictures lie.
pub mod TypeLaws
pub mod SharedPartsLaws
pub mod FrameLaws
