-- What the answers' proofs cite, the line that is printed of a reading's parts, and laws of the parts that a call is lent.
pub mod AskedLaws
pub mod LineLaws
