pub mod ByPlaces
pub mod Corners
pub mod Filling
pub mod Gathered
pub mod Loops
pub mod Places
pub mod Sorts
pub mod Texted
