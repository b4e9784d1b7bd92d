-- What a stranger must believe: which tokens may be expected and how they are told; which of them
-- could follow; and what is expected in a file.
pub mod Candidates
pub mod Following
pub mod Expected
pub mod Texts
