pub mod Ending
pub mod Promised
