pub mod Lines
pub mod Words
pub mod Commands
pub mod Readings
pub mod Laws
pub mod Texts
pub mod BehindPid
