-- What is kept of an engine, and the engine that is restored from it.
pub mod Storing
pub mod Restoring
