pub mod Places
pub mod Entrances
pub mod Entering
pub mod Station
