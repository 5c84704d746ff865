pub mod Lists
pub mod Points
pub mod Sweep
