-- What is proved of the code: bytes laid one after another.
pub mod Laying
-- One outcome:
pub mod Outcomes
