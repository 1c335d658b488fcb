pub mod Performings
