-- Keys and their answers; how a piece of a program runs and is told answers; runs that are told
-- lists of pairs or words, and the laws of a run.
pub mod Keys
pub mod Contents
pub mod Run
pub mod Laws
pub mod Told
-- What inner contracts use.
pub mod KeyLaws
