pub mod Bitmaps
pub mod Bits
pub mod Chains
pub mod Faults
pub mod Inodes
pub mod Laws
pub mod Room
