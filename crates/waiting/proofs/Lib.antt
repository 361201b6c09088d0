-- Laws that belong to no one function.
pub mod Rows
pub mod Telling
pub mod Settling
pub mod Numbers
pub mod Outcomes
