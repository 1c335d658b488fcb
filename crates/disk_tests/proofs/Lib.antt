pub mod KnownFiles
