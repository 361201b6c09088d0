-- The entries:
pub mod Entries
-- What each public contract leaves open: nothing.
pub mod Unique
pub mod Outcomes
