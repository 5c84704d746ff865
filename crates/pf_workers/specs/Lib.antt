pub mod Shares
pub mod Keepers
pub mod Parts
pub mod Crew
pub mod Jobs
