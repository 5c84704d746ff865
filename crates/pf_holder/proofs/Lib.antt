pub mod Held
pub mod Patches
pub mod Moved
pub mod Told
