mod Examples
pub mod ListLemmas
pub mod TlvLemmas
pub mod NameLemmas
pub mod FrontLemmas
pub mod HeaderLemmas
