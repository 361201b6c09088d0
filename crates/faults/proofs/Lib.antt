-- What the code tests is what a text gets wrong:
pub mod Lines
-- The public functions' contracts leave one outcome:
pub mod Outcomes
