pub mod Tables
pub mod Joining
-- One outcome:
pub mod Outcomes
