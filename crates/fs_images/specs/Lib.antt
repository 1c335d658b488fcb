pub mod Standing
pub mod NewTables
pub mod Making
pub mod Upgrading
