pub mod Tris
pub mod Plans
pub mod Made
