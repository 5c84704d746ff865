pub mod Insertion
pub mod PutNames
pub mod Bridge
pub mod Spots
pub mod Standing
pub mod Planned
