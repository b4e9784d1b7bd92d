-- What a stranger must believe: the leaves that are told are those of the profile.
pub mod Profiles
-- What inner contracts use: what a line that asks whose a value is makes of a session.
pub mod Lines
