pub mod Shown
pub mod Commits
pub mod Openings
pub mod Settled
pub mod Reached
