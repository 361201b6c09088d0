-- What the code tests is what a text has:
mod Cutting
mod Numbers
-- The public functions' contracts leave one outcome:
pub mod Outcomes
