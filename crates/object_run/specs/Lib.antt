-- How the ends of the code are those of the definitions.
pub mod Ended
-- What the tests of a check are evaluated in.
pub mod Testing
pub mod TestingSets
-- Codes, by which what a build makes is told apart.
pub mod SyntaxCode
pub mod TypeCode
