-- What one record changes, for the pass:
pub mod Passing
-- The theorem: the list names cores as it should, and so gives an accepted log its cores:
pub mod Naming
pub mod Given
pub mod Outcomes
-- A small log, computed:
pub mod Worked
