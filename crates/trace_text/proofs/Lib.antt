pub mod ReadLemmas
pub mod WriteLemmas
mod Rows
