-- The predecessors, edge by edge, and how many there are; the ancestors, along the order; and what the bits tell:
pub mod Filling
pub mod Ones
pub mod Gathering
pub mod Learning
pub mod Telling
-- What each public contract leaves open: nothing.
pub mod Outcomes
