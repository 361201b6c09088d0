-- What is added, what a cell then says, and how the cells go on:
pub mod Totals
pub mod Opening
pub mod Walking
-- What the public contract leaves open: nothing.
pub mod Outcomes
