-- What the entry gives.
pub mod Replayed
pub mod Answers
-- What only private functions speak of.
pub mod Steps
