pub mod Chars
pub mod SortTests
pub mod Forms
pub mod Places
pub mod Spines
pub mod TypeForms
pub mod Pointers
pub mod Sets
