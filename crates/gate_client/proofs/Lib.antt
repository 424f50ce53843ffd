mod Examples
pub mod NumberLemmas
pub mod ClientLemmas
pub mod CauseLemmas
pub mod FrameLemmas
mod LineExamples
pub mod AskingLemmas
pub mod SettlingLemmas
pub mod TryLemmas
mod TryExamples
