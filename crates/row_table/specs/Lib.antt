-- The table of a keeper, its rows, what a connection tells of them, and what calls leave.
pub mod Table
pub mod Rows
pub mod Cells
pub mod Steps
