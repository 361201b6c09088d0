-- Laws that belong to no one function.
pub mod Fewest
pub mod Lowering
pub mod Outcomes
