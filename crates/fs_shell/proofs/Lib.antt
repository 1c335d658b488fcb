pub mod Cut
pub mod Faulty
pub mod Pieces
pub mod Reading
pub mod Sessions
