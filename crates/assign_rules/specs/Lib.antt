-- What a stranger must believe.
pub mod Globals
pub mod Profiles
-- What inner contracts use.
pub mod Places
