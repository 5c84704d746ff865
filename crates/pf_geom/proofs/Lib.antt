pub mod Polynomials
pub mod Orientations
pub mod Products
pub mod Middles
