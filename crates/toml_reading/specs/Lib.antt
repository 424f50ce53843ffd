pub mod First
pub mod Tree
pub mod Range
