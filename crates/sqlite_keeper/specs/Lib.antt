-- What is refused.
pub mod Refusals
