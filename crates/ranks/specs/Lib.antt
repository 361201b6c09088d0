-- The ranking as a table.
pub mod Listed
