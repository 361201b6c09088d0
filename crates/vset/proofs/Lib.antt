-- Laws that belong to no one function.
pub mod Digits
pub mod Words
pub mod Same
pub mod Rank
pub mod Outcomes
pub mod Gather
pub mod Taking
