pub mod Numbered
pub mod Adding
pub mod Clearing
pub mod Chains
pub mod Owning
pub mod Joining
