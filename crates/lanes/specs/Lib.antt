pub mod Lanes
pub mod Passing
