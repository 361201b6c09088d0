-- The descendants, gathered against the order; and what is neither above nor below:
pub mod Reaching
pub mod Filling
-- What the public contract leaves open: nothing.
pub mod Outcomes
