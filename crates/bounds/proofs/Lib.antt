-- What the lists of weights say:
pub mod Weighing
-- The entries:
pub mod Entries
-- What each public contract leaves open: nothing.
pub mod Unique
pub mod Outcomes
-- Bounds and path as functions that compute, and the worked cases:
pub mod Computed
-- Cores that no vertex has:
pub mod Unused
