pub mod Header
pub mod HeaderStatus
