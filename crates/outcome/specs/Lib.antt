pub mod OneOutcome
pub mod Stated
pub mod Allows
