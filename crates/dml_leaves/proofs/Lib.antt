pub mod Trees
pub mod Indexed
pub mod Weights
pub mod KeyValues
pub mod Stopping
pub mod Whole
