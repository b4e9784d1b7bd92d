pub mod Counts
pub mod Cuts
pub mod Drafting
pub mod Kids
