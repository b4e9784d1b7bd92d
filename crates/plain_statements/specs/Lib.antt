pub mod Seen
pub mod Runs
pub mod Executions
pub mod Frames
pub mod Refusals
pub mod Prefixes
