pub mod Said
pub mod Counting
pub mod Shown
pub mod Watched
pub mod Calling
pub mod KeptEnds
pub mod Profiles
