-- Sums along the edges of a vertex:
pub mod Ascending
pub mod Rows
-- The numbers:
pub mod Counting
-- What each public contract leaves open: nothing.
pub mod Outcomes
