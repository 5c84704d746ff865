pub mod Lending
pub mod Giving
pub mod Making
