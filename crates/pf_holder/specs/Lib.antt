pub mod Facts
pub mod Prepared
pub mod Answers
pub mod Laws
