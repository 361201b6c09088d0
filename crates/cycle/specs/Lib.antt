pub mod Drawn
-- What only private functions speak of.
pub mod Line
