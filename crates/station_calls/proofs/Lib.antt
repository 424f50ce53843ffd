pub mod OpeningLemmas
pub mod CommitLemmas
pub mod SettleLemmas
pub mod ReachedLemmas
