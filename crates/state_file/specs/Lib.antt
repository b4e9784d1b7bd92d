-- Rows that no state has.
pub mod Refused
