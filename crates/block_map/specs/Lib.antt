pub mod Blocks
pub mod Contents
pub mod Drops
pub mod Faults
pub mod Links
pub mod Sizes
pub mod Steps
