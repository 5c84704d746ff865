pub mod Tables
pub mod First
pub mod Gates
pub mod Making
pub mod Part
pub mod Shown
