pub mod Copies
pub mod Renamed
pub mod Prepared
pub mod Spread
