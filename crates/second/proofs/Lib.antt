-- From the lists to what the functions ask for:
pub mod Grounds
-- The entries:
pub mod Entries
-- What each public contract leaves open: nothing.
pub mod Unique
pub mod Outcomes
