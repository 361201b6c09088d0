-- What the public contract leaves open: nothing.
pub mod Outcomes
