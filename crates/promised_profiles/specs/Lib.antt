-- What a stranger must believe: when a tree keeps a promise.
pub mod Promised
