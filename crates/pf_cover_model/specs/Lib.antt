pub mod Crossings
pub mod Alike
pub mod Laws
