-- What the public calls mean.
pub mod Counted
pub mod Positions
pub mod Drafts
pub mod Children
-- How the crates above say which functions they have.
pub mod Names
