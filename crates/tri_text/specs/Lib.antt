pub mod Reading
pub mod Node
pub mod Ele
pub mod Laws
