-- What the readings' proofs cite, and readings of records whose parts share bytes.
pub mod ReadingLaws
pub mod SharedInReadingsLaws
