-- Files and objects as keys, what is kept of them, and who reads what.
pub mod Subjects
pub mod Nodes
pub mod Owners
pub mod Readers
pub mod Reached
