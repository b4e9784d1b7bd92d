-- Which names and rows differ between two lists of rows.
pub mod Differing
-- What a keeper tells, and what becomes of it where rows are kept in place of others.
pub mod Stores
-- What a walk over two lists of rows has behind it. Inner contracts use it.
pub mod Passed
