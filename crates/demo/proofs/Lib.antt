pub mod Distinct
pub mod Lasting
pub mod Turning
pub mod Going
