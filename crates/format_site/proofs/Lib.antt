pub mod Leaving
pub mod Rounds
pub mod Opening
