-- What is seen of references.
pub mod References
pub mod Statements
-- What inner contracts use.
pub mod Changes
pub mod Weights
