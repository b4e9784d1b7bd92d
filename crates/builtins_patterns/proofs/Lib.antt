pub mod Examples
pub mod Alike
pub mod Captured
pub mod Cutting
pub mod Compiled
pub mod Given
pub mod Templating
pub mod Rewriting
