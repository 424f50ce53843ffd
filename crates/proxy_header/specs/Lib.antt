pub mod Reading
pub mod Tlvs
pub mod Names
pub mod Front
pub mod Header
