pub mod Conditions
pub mod Faults
pub mod Place
pub mod Shown
pub mod Stop
