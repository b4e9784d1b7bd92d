-- What the public calls mean: keys, names and paths as texts, then trees.
pub mod Grammar
pub mod Escape
pub mod Paths
pub mod Plain
pub mod Find
pub mod Put
pub mod Remove
pub mod Take
pub mod Lists
pub mod Dicts
pub mod Values
pub mod Same
pub mod Refusals
-- What contracts between the crates, and inside of this one, build on.
pub mod Children
pub mod Reading
pub mod View
pub mod Position
pub mod Kept
-- What the model of a tree asks for. Their lemmas stand here, since a model cites no proof of its
-- own crate.
pub mod Code
pub mod Falls
