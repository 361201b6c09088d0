pub mod Fewest
pub mod Answers
-- What only private functions speak of.
pub mod Halving
