pub mod Rest
pub mod Builds
pub mod Checks
pub mod Meanings
