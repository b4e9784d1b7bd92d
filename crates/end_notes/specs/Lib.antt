-- What a stranger must believe: which word is said to be wrong, and the texts.
pub mod Scan
pub mod Wrongs
pub mod Notes
-- The source that the words' profiles are made from.
pub mod Asked
