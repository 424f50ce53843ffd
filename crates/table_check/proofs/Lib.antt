pub mod CheckLemmas
pub mod DocumentLemmas
mod Examples
pub mod FareLemmas
mod NoteExamples
pub mod TableLemmas
pub mod TreeLemmas
