-- The ranking, a vertex placed at a time:
pub mod Listing
-- What the public contract leaves open: nothing.
pub mod Outcomes
