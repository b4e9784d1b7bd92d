-- What the objects of a picture are; then how they are found.
pub mod Objects
pub mod Finding
