pub mod Examples
pub mod Utf8
pub mod Undefs
pub mod Checks
pub mod Sizes
pub mod Trees
