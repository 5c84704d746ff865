pub mod PlaceLemmas
pub mod Told
