-- What is proved of the definitions.
--
-- The file by its records, and that the part of it that the code looks at is judged as the whole:
pub mod Joined
pub mod Part
pub mod Acceptance
pub mod Alike
pub mod Cut
-- The round trips:
pub mod FromFile
pub mod FromLists
pub mod RoundTrip
-- One outcome:
pub mod Outcomes
