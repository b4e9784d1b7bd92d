pub mod Turns
pub mod TypeTurns
pub mod StatementTurns
pub mod Pushes
pub mod Whole
