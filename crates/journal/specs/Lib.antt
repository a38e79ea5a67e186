pub mod All
pub mod Drawing
pub mod Points
pub mod Records
pub mod Restoring
