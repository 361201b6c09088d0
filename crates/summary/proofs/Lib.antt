-- Along the edges of one vertex, and along the order:
pub mod Rows
pub mod Along
pub mod Raised
-- The sums that end at each vertex, and those that start there:
pub mod Forward
pub mod Backward
-- Which sums a changed weight touches:
pub mod Marking
pub mod Renewing
-- What each public contract leaves open: nothing.
pub mod Unique
pub mod Outcomes
