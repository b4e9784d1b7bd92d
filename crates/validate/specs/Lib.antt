-- What a stranger has to believe: what a check takes of the language; kinds and ranges; the check
-- of a value and of an object; when a value conforms to a type, and an object is sound; what that
-- asks of the language.
pub mod Means
pub mod Kinds
pub mod Refusals
pub mod Check
pub mod Checked
pub mod Conforms
pub mod Steady
pub mod Sound
-- How contracts say that code gives what runs give, and the steps that code makes one at a time.
pub mod Exits
pub mod Validations
pub mod Keys
pub mod Statements
pub mod Walks
