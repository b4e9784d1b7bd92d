-- What the public calls give: the functions by their names, and a definition for each.
pub mod Calls
pub mod Base64Texts
pub mod Digests
pub mod Json
-- What a dict with one field more is to the code.
pub mod Fields
