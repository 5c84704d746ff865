pub mod Examples
pub mod Laws
pub mod LineLemmas
pub mod NumberLaws
pub mod NumberLemmas
pub mod Places
pub mod RunLemmas
pub mod WordLemmas
