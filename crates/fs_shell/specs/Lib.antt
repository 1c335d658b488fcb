pub mod Runs
pub mod Scripts
pub mod Watching
