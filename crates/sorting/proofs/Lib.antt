-- Laws that belong to no one function.
pub mod Shuffling
pub mod Outcomes
