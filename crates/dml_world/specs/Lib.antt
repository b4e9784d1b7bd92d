-- What a stranger must believe: what is seen of values, of answers, and how a function's result is
-- what a run gives.
pub mod Seen
pub mod Answers
pub mod Exits
pub mod Evaluations
pub mod Functions
