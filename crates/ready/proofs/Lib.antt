-- Laws that belong to no one function.
pub mod Ancestors
pub mod Standing
pub mod ByNumbers
pub mod Outcomes
