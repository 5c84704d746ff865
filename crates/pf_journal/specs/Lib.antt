pub mod Replay
pub mod Stops
