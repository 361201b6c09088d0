pub mod KeySets
-- What each public contract leaves open: nothing.
pub mod Outcomes
