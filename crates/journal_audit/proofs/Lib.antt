mod Examples
pub mod NameLemmas
pub mod TouchLemmas
pub mod AuditLemmas
pub mod RevisionLemmas
pub mod LawLemmas
pub mod CalendarLemmas
pub mod LineEndLemmas
pub mod TellingLemmas
pub mod HistoryLemmas
pub mod SumLemmas
pub mod RowLemmas
pub mod HoldingLemmas
pub mod AccountLemmas
pub mod BalancesLemmas
pub mod GateLemmas
pub mod GateTold
mod CommandExamples
