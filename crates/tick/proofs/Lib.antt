-- Laws that belong to no one function.
pub mod Awaited
pub mod Records
pub mod Moved
pub mod Suiting
pub mod Ticking
pub mod Outcomes
