pub mod PointsByName
pub mod Turns
pub mod Blocks
pub mod Swept
