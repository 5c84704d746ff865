pub mod Told
pub mod Turned
pub mod Lists
pub mod Seats
pub mod First
pub mod Closes
pub mod Ends
