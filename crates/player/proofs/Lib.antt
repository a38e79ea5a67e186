-- What the proofs of play and undo cite: the ways through each and a play's work; conditions 1 and 2, pixel by pixel;
-- the order of ROP4's bytes; the cut of a blend's channels; records whose parts share bytes.
pub mod UndoLaws
pub mod WorkLaws
pub mod PlayLaws
pub mod PixelLaws
pub mod Conditions
pub mod Rop4OrderLaws
pub mod CutInPlaysLaws
pub mod SharedInPlaysLaws
