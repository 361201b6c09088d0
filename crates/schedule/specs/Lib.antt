-- What the entries give. Read in this order.
pub mod Start
pub mod Tick
pub mod Played
pub mod Whole
