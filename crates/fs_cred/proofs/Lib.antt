pub mod Scanned
pub mod Lookups
pub mod FirstGroup
pub mod OneAnswer
pub mod NamedGroups
pub mod ByCapability
pub mod ByMode
