mod Commits
pub mod Delta
pub mod Images
mod Pairs
pub mod TransactionRuns
mod ReadCalls
