-- The edges of a vertex stand together:
pub mod Together
-- What the public contract leaves open: nothing.
pub mod Outcomes
