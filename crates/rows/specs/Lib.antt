-- A table with a row of two words for each vertex.
pub mod Rows
-- What only private functions speak of.
pub mod Gathered
