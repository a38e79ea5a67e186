pub mod Outcome
pub mod Calls
pub mod Pixels
pub mod Conditions
pub mod Rop4Order
pub mod CutInPlays
pub mod SharedInPlays
