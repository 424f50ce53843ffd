pub mod Logged
pub mod Listed
pub mod Turns
pub mod Schedules
pub mod Merged
pub mod Answered
pub mod Closed
