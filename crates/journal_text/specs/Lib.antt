pub mod Entries
pub mod Journal
pub mod EntryWords
pub mod Laws
