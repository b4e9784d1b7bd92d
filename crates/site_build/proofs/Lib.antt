pub mod Publishing
pub mod Ending
pub mod Taking
pub mod Settling
pub mod Finishing
pub mod Following
pub mod Opening
pub mod Once
