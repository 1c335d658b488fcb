pub mod Acls
pub mod Inodes
pub mod Storing
