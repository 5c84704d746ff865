pub mod Plane
pub mod Laws
