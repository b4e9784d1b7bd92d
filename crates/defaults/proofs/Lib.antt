pub mod Loops
pub mod Kept
pub mod Replays
pub mod Lawful
pub mod BareTypes
pub mod Rows
