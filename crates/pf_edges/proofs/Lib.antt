pub mod Sides
pub mod TableSteps
pub mod Entries
pub mod Exchanged
