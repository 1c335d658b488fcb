pub mod Batch
pub mod Marks
pub mod Meaning
pub mod States
