pub mod Lists
pub mod Owed
