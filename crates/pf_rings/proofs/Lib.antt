pub mod Runs
pub mod Least
pub mod Renamed
pub mod Lent
