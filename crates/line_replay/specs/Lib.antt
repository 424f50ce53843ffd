pub mod Line
pub mod HexLine
pub mod Station
pub mod Replay
pub mod Progress
pub mod Run
pub mod Fault
pub mod Input
