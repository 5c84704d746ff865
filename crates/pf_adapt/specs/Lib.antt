pub mod Adapted
pub mod Crew
