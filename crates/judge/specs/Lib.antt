pub mod Operation
pub mod Geometry
pub mod SignedGeometry
pub mod Record
pub mod Good
pub mod Check
pub mod SharedBytes
