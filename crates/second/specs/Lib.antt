pub mod Seconded
pub mod Answers
-- What only private functions speak of.
pub mod Shares
