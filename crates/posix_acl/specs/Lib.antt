pub mod Entries
pub mod AccessList
pub mod Faults
pub mod Stored
pub mod Order
pub mod Text
pub mod Numbers
