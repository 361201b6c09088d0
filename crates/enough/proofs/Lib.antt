-- Which numbers meet a limit, the smallest that does, and boards that declare it:
pub mod Meeting
pub mod Boards
-- The lists with another number of cores:
pub mod Stored
-- The search:
pub mod Halving
-- The entry, and what its answers say:
pub mod Entries
pub mod Saying
-- What each public contract leaves open: nothing.
pub mod Unique
pub mod Outcomes
