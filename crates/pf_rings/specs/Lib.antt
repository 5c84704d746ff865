pub mod Points
pub mod Least
pub mod Runs
pub mod Lending
