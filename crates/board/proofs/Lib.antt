-- What the code tests is what the lines say:
mod Passing
mod Filling
-- The public functions' contracts leave one outcome:
pub mod Outcomes
