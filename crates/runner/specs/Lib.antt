-- How runs end; what they are told; what a runner means, and the laws of that; where builds look
-- for
-- templates; what the log of a build gives.
pub mod Ends
pub mod Words
pub mod Meaning
pub mod Looking
pub mod Logged
