pub mod Carried
pub mod Migrated
pub mod Prepared
pub mod Serve
