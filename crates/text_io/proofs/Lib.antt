mod Examples
pub mod ReadLemmas
