-- What is proved of the code: the predecessors, the ends, the text, and the whole.
pub mod Gathering
pub mod Model
pub mod Lines
pub mod Writing
-- One outcome:
pub mod Outcomes
