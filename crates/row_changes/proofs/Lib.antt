pub mod Walk
pub mod Made
pub mod Same
pub mod Listed
pub mod Worked
