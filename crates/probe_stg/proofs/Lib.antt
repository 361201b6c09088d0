-- The public functions' contracts leave one outcome:
pub mod Outcomes
