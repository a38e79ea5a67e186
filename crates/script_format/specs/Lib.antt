pub mod Sum
pub mod Fill
pub mod Text
