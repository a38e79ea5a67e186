-- What the check's proofs cite: the operation's cases, the answer and its number, what acceptance says, where 21 stands in the
-- order, and refusal 12 over signed numbers.
pub mod OperationLaws
pub mod CheckLaws
pub mod AcceptedLaws
pub mod SharedBytesLaws
pub mod SignedGeometryLaws
