pub mod Lent
pub mod Rings
pub mod Judged
pub mod Cavity
pub mod Patched
pub mod Copies
pub mod Assembled
pub mod Laws
