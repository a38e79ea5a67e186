pub mod Paints
