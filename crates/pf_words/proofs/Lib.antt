pub mod Arguments
pub mod OneWord
pub mod Walks
pub mod Forms
pub mod Pairs
mod Examples
