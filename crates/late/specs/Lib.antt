pub mod Lateness
pub mod Answers
