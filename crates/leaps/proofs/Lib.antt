-- Laws that belong to no one function.
pub mod OneByOne
pub mod OneLeap
pub mod Finishes
pub mod Instants
pub mod Leaping
pub mod Stopping
pub mod Outcomes
