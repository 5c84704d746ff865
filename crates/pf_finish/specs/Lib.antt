pub mod Passing
pub mod Seen
pub mod Done
pub mod Wished
pub mod Covers
pub mod Waiting
