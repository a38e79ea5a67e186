-- What the proofs on fetched rows cite: whole-byte channels, a row whose depth and masks are known, and what acceptance says of a header.
pub mod CommonLaws
pub mod FetchLaws
pub mod ReadableLaws
