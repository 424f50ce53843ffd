pub mod EntryLemmas
pub mod LogLemmas
pub mod ScheduleLemmas
pub mod MergeLemmas
pub mod AnsweredLemmas
pub mod OfficeLemmas
pub mod DeskLemmas
pub mod ClosingLemmas
mod Examples
mod OrderExamples
