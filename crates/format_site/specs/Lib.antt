-- What a stranger must believe: what formatting a site leaves, and why it ends early.
pub mod Formats
-- What inner contracts use.
pub mod Following
