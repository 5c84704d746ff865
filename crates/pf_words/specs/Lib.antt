pub mod Grammar
pub mod Clap
pub mod Shown
pub mod Pairs
