pub mod BothLawful
pub mod Logging
pub mod Looking
