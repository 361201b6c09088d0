-- What only private functions speak of.
pub mod Rows
pub mod After
pub mod Listed
pub mod Lines
