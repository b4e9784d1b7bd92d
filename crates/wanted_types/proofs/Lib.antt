pub mod Dicts
