pub mod TallyLemmas
pub mod PostLemmas
pub mod ServingLemmas
pub mod ReportLemmas
pub mod LeftLemmas
mod DaysLemmas
mod Examples
mod BehindLemmas
