pub mod Program
pub mod WrittenDefaults
pub mod Statements
pub mod Objects
pub mod Laws
