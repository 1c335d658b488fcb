pub mod Exchanges
pub mod Rounds
pub mod Pieces
pub mod Processes
pub mod Status
