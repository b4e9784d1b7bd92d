pub mod Keeping
pub mod Twice
pub mod Short
pub mod Silent
pub mod LineEnds
