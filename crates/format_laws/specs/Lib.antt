-- What a stranger has to believe: what it is that a text is read back.
pub mod Again
