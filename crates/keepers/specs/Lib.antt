-- What a keeper tells of its row names, and what becomes of them.
pub mod Keeping
-- Keepers in memory.
pub mod Kept
-- Rows in byte order, without a name or with a row. Inner contracts use it.
pub mod Sorted
