pub mod Doings
mod Judging
