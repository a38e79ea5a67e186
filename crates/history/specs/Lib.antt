pub mod History
pub mod Lists
pub mod Run
pub mod Reported
pub mod Stepped
pub mod Conditions
pub mod SharedInHistory
