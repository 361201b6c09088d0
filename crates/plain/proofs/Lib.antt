-- A file that is passed to its end has no fault.
pub mod Passed
-- What the public contracts leave open: nothing.
pub mod Outcomes
