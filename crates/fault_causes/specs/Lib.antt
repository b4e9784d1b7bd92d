-- What a stranger must believe: the value at a path of an object, and who set it; the files that
-- were looked for under a name.
pub mod Causes
pub mod Missed
