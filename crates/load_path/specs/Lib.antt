-- What a stranger must believe: names of files, pictures, and where templates are looked for.
pub mod FileNames
pub mod Pictures
pub mod Candidates
