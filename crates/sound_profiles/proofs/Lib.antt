pub mod Steady
pub mod SteadyLeaves
pub mod SteadyValues
pub mod SteadyCreate
pub mod SteadyItems
pub mod Staying
pub mod Profiles
