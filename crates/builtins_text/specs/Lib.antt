-- The functions by their names, and what each gives of its arguments.
pub mod Calls
pub mod Texts
pub mod Numbers
pub mod Joins
pub mod Formats
pub mod Addresses
-- What helps to say what the inner functions give.
pub mod Saturated
pub mod Writing
