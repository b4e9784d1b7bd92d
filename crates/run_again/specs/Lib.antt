-- What a build that is run again gives, and what it costs.
pub mod Again
