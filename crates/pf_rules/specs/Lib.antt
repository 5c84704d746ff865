pub mod EdgeSides
pub mod Star
pub mod Contract
pub mod Lengths
pub mod Change
