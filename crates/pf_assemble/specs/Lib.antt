pub mod ChunkList
pub mod Divided
pub mod Listed
pub mod Names
pub mod Placed
pub mod Rows
pub mod Spaced
pub mod Whole
