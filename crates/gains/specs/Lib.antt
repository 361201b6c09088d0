pub mod Gained
pub mod Answers
