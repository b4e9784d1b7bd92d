-- What a stranger must believe: the objects of a picture as a list, what compiling an object looks
-- at, who set the leaves of its tree, the engine of a session, what an edit leaves as it was, and
-- what
-- a session's rounds run and cost.
pub mod Names
pub mod Looking
pub mod Blaming
pub mod Compiler
pub mod Untouched
pub mod Rounds
-- What inner contracts use: what a register tells, where a session, its engine and its counts
-- stand, and of which trees the texts are that are kept.
pub mod Registers
pub mod KeptDeps
pub mod Standing
pub mod KeptTexts
