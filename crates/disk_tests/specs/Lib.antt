pub mod Mixed
pub mod Small
pub mod Writes
