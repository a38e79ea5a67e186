pub mod Opcode
pub mod Found
pub mod Unread
pub mod Lengths
