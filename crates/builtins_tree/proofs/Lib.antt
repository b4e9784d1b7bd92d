pub mod Builds
pub mod Examples
pub mod Finds
pub mod Spliced
pub mod Twice
