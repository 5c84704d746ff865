pub mod JournalReads
pub mod ReadLemmas
pub mod WriteLemmas
