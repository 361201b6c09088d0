-- What a whole run gives.
pub mod Finishes
-- How it is found.
pub mod Leaps
