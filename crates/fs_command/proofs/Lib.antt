pub mod Askers
pub mod Getters
pub mod Refusals
pub mod Splits
pub mod Subcommands
pub mod Taken
pub mod Values
