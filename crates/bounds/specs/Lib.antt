pub mod Bounded
pub mod Pathed
pub mod Answers
