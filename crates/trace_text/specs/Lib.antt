pub mod Parts
pub mod Events
pub mod Trace
pub mod Verdicts
