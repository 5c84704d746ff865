pub mod Keeping
pub mod Parting
pub mod Crewing
pub mod Fitting
