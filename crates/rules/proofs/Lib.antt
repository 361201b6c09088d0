-- Laws of the rows.
pub mod Rows
pub mod Outcomes
