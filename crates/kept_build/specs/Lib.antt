-- What a keeper holds and what is kept by a build; a build that goes on from rows, and its ends.
pub mod Stores
pub mod Kept
pub mod Ends
pub mod Builds
-- What inner contracts use.
pub mod Rounds
