-- What a stranger must believe: what the devices tell, the session of a build, and why one ends
-- early.
pub mod Scenes
pub mod Session
pub mod Ends
-- What inner contracts use.
pub mod Rounds
