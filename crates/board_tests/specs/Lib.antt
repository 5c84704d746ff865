pub mod Tried
pub mod Holding
