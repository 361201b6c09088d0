pub mod Laying
pub mod Noting
-- What each public contract leaves open: nothing.
pub mod Outcomes
