pub mod Restores
pub mod Stored
pub mod Copies
pub mod Worked
