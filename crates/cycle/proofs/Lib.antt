-- Laws that belong to no one function.
pub mod Drawn
pub mod Telling
pub mod Line
pub mod Cycles
pub mod Outcomes
