pub mod Items
pub mod Stopping
