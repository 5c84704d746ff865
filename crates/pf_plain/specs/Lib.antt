pub mod Stars
pub mod Plains
pub mod PlainLaws
pub mod Views
