pub mod Both
pub mod Causes
pub mod MakingMoments
pub mod MakingRefusals
pub mod MakingTables
pub mod Places
pub mod Raising
