pub mod Sizes
pub mod Statuses
pub mod Users
pub mod Words
