pub mod Rest
pub mod Crossed
pub mod Around
