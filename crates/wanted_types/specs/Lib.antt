-- What a stranger must believe: a type as words, what it wants below it, what bindings want.
pub mod Words
pub mod Below
pub mod Wanted
