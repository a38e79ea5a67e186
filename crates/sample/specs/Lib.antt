pub mod Palette
pub mod Stored
pub mod Colour
pub mod At
