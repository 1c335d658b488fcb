pub mod Values
pub mod Broken
pub mod Carried
pub mod Lines
pub mod Passing
pub mod ReadRounds
pub mod Served
pub mod SoFar
