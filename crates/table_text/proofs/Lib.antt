pub mod KeptLemmas
pub mod PartLemmas
pub mod PartReads
pub mod SizeLemmas
