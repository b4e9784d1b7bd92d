pub mod Cases
pub mod Lines
pub mod Logs
pub mod Profiled
