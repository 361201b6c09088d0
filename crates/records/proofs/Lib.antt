-- Laws of the records.
pub mod Passing
pub mod Outcomes
