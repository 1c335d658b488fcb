pub mod Tables
pub mod Judging
pub mod Handles
