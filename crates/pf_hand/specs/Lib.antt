pub mod Hands
pub mod Next
pub mod Later
pub mod HandLaws
pub mod Laws
