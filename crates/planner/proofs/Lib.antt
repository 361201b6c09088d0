-- One outcome.
pub mod Outcomes
mod Reading
