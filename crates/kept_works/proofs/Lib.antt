pub mod Ordered
pub mod Begun
pub mod Held
pub mod Nothing
