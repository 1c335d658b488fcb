pub mod Faults
pub mod Slots
