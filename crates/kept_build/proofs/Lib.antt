pub mod Keeping
pub mod Counting
pub mod Ending
pub mod Finishing
pub mod Sound
pub mod Running
