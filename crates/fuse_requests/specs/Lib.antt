pub mod Families
pub mod Listings
pub mod Performing
