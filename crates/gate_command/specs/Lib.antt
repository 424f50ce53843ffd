pub mod Arguments
pub mod Told
