pub mod EachStatement
pub mod OfObjects
pub mod Leaving
