-- What the proofs on a picture's bytes cite: its table, and its rows.
pub mod TableLaws
pub mod PictureRowLaws
