-- Laws that belong to no one function.
pub mod Gathering
pub mod Handing
pub mod Logging
pub mod Room
pub mod Outcomes
