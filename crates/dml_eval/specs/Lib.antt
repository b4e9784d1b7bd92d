pub mod Heres
pub mod Waits
