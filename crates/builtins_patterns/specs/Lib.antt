-- What the public calls give.
pub mod Pattern
pub mod Calls
-- What is taken from the searches of the crate regex.
pub mod Pieces
pub mod Parts
