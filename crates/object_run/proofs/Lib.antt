pub mod Stopping
pub mod Filling
pub mod Ending
pub mod Told
