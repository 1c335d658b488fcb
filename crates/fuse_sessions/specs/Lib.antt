pub mod Listings
pub mod Performing
