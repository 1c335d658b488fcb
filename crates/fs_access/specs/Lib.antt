pub mod Components
pub mod Asking
pub mod Sentences
pub mod Objects
