-- What is proved of the code: line by line, and whole.
pub mod Kept
pub mod Along
pub mod Tasks
pub mod Comments
pub mod Rests
pub mod Spreading
pub mod Reached
pub mod Cut
pub mod Reading
-- One outcome:
pub mod Outcomes
