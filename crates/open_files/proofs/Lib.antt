pub mod Numbered
pub mod OpenSlots
pub mod Slots
pub mod Handled
