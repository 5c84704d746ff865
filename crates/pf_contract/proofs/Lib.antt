pub mod Stars
pub mod Steps
