pub mod Working
pub mod Entries
pub mod Booleans
pub mod Ends
pub mod Looking
