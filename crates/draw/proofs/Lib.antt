-- What the drawing's proofs cite: a row drawn, and that all it is drawn from is there.
pub mod DrawLaws
pub mod ReadyLaws
