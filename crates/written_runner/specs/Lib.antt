-- What a stranger must believe: the language of written objects, and what it means to a runner;
-- then the
-- items of a trace, that the meaning is lawful, and that builds look for their own files.
pub mod Written
pub mod Meaning
pub mod Traces
pub mod Laws
pub mod Promised
