pub mod Table
pub mod Kept
pub mod TableSteps
pub mod Hasher
