pub mod SpanLemmas
pub mod EdgesLocated
pub mod EdgeSearch
