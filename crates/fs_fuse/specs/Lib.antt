pub mod Performing
