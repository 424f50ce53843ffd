pub mod FirstLemmas
pub mod TestLemmas
pub mod TextLemmas
pub mod TreeLemmas
mod Examples
