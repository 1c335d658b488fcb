pub mod Exiting
pub mod Settling
pub mod Openings
pub mod Places
pub mod Opens
