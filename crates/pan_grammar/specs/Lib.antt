-- What a stranger has to believe: the grammar, and what a fault of syntax or nesting is in its
-- words.
pub mod Grammar
pub mod Types
pub mod Templates
pub mod Faults
-- The same as a machine that reads token by token, which inner contracts use.
pub mod States
pub mod Depths
pub mod Machine
pub mod Waiting
pub mod Begins
pub mod Parsed
