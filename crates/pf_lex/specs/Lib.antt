pub mod Text
pub mod Token
pub mod Number
pub mod Written
