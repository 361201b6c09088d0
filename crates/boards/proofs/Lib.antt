-- What it is for there to be no point that is worse.
pub mod Good
pub mod Outcomes
-- A list's own test as one of its places.
pub mod Lists
-- What a search found as a point.
pub mod Found
