-- What a stranger has to believe: the tree after the defaults, with its log.
pub mod Filled
-- How contracts say that code gives it.
pub mod Fills
pub mod Steps
pub mod Bare
