-- What a stranger has to believe: the characters that rules name; the fault codes and the printed
-- line of a fault; what a token is to the grammar; the plain syntax that a template has, and which
-- one a tree in memory spells; how far such a tree reaches.
pub mod Signs
pub mod Codes
pub mod Detail
pub mod Printed
pub mod Failures
pub mod Tokens
pub mod Sorts
pub mod Syntax
pub mod Types
pub mod Templates
pub mod Seen
pub mod TypesSeen
pub mod TemplatesSeen
pub mod Pointers
