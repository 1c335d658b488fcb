pub mod Searched
pub mod Edited
pub mod Scattered
pub mod Chosen
pub mod StateLaws
pub mod KeptShares
pub mod Holders
pub mod RowsOfShares
