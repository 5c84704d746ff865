pub mod Listing
pub mod BuildSteps
pub mod Operations
pub mod Sites
pub mod Tables
pub mod Relist
pub mod Run
