-- How the code goes on; and what comes first in the rest of a text, as the fields of the line that begins there.
pub mod Going
pub mod Skips
pub mod Words
pub mod Tokens
-- One outcome:
pub mod Outcomes
