pub mod Scans
pub mod Outcomes
