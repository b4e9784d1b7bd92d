pub mod Noted
pub mod NotedSets
