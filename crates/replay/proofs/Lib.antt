-- Order 7 from the file's bytes; the log of a list schedule, and an empty log:
pub mod Accepting
pub mod ListReplay
-- The answer row by row, and the entry's:
pub mod Rows
pub mod Answers
pub mod Outcomes
