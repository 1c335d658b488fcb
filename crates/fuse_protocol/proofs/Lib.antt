pub mod AclEntries
pub mod Batches
pub mod Runs
pub mod SpelledRequests
pub mod Texts
