pub mod Types
pub mod Transform
pub mod Fixed
pub mod SharedParts
pub mod FrameStatus
