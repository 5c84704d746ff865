pub mod Edges
pub mod Inside
