pub mod Allowed
pub mod Doors
pub mod Lines
pub mod Report
