pub mod Directories
pub mod Files
