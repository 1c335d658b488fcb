mod Both
pub mod Causes
pub mod Areas
pub mod Entries
pub mod Puts
mod Places
mod Absorbing
mod Marks
pub mod Meaning
mod Placing
mod Sharing
pub mod Used
mod Writing
mod Reading
