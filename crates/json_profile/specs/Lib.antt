pub mod Json
pub mod Dependencies
-- What inner contracts use.
pub mod Children
