-- The functions by their names, and what each gives of its arguments.
pub mod Calls
pub mod Lists
pub mod Dicts
pub mod Splices
pub mod Merges
pub mod Reads
pub mod Kinds
pub mod Searches
-- What helps to say what the inner functions give.
pub mod Pairs
