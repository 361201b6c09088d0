-- Laws that belong to no one function.
pub mod Answers
pub mod Outcomes
pub mod TickByTick
