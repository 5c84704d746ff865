pub mod Part
pub mod Size
pub mod RowWords
pub mod Kept
pub mod Laws
