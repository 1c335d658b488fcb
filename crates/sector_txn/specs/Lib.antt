pub mod Clean
pub mod Images
pub mod Last
pub mod Sectors
pub mod Stores
pub mod Waits
