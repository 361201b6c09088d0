-- Laws that belong to no one function.
pub mod Answers
pub mod Unique
pub mod Outcomes
