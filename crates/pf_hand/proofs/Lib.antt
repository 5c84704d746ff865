pub mod Due
pub mod Puts
pub mod Made
pub mod Told
pub mod Freed
