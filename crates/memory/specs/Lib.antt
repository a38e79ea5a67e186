pub mod Memory
pub mod Playing
pub mod Undoing
