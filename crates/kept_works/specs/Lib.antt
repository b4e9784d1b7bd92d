-- What is kept of a session's engine, and the engine that goes on from what was kept.
pub mod Kept
