-- What a stranger has to believe: what a type is once its names are resolved, which values are
-- defaults, how deep a type is, which names are types, and what a written type stands for; then
-- bindings and their order.
pub mod Resolved
pub mod Defaults
pub mod Depth
pub mod Names
pub mod Resolving
pub mod Bindings
-- How contracts see types, tables and bindings in memory, and errors.
pub mod ResolvedSeen
pub mod Tables
pub mod Fields
pub mod BindingsSeen
pub mod Refusals
