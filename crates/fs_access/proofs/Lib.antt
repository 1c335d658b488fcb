pub mod Steps
pub mod Replies
pub mod Fronts
