-- What the code tests is what the payload holds:
mod Cut
-- The public functions' contracts leave one outcome:
pub mod Outcomes
