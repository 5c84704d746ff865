pub mod Placed
pub mod Begun
pub mod Commits
pub mod Names
