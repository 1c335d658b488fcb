pub mod Files
pub mod Seconds
pub mod Telling
