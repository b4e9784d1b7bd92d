pub mod Items
pub mod Programs
pub mod Refused
pub mod Stopping
