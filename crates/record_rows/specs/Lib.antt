-- How values stand in bytes; the fields of rows; trees; what is kept, as rows.
pub mod Forms
pub mod Fields
pub mod Trees
pub mod Rows
pub mod Results
-- What inner contracts use.
pub mod Reading
pub mod Writing
