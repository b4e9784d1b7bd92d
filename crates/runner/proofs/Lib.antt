pub mod Candidates
pub mod Looking
