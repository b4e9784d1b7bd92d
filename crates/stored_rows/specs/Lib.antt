-- Rows in byte order of names, and what stands under a name.
pub mod Rows
