pub mod Cursors
pub mod GrantedUsers
pub mod Listings
pub mod Pieces
pub mod Sorted
pub mod Steps
