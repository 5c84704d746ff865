mod Orders
pub mod Tickets
