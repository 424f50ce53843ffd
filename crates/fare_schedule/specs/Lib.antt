pub mod InForce
pub mod Places
pub mod Dated
pub mod Stations
pub mod Texts
pub mod Laws
pub mod Schedule
pub mod Supply
