-- What the answers' proofs cite, of a call that was found and of what is unread, and laws of a buffer that is filled anew.
pub mod FoundLaws
pub mod InputLaws
pub mod UnreadLaws
