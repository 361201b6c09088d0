-- A scan that goes on; how many of a kind run; one vertex less with ticks left; a step; what the frame tells of 19, 20 and 22:
pub mod Scan
pub mod Using
pub mod Ending
pub mod Framing
pub mod Ruling
pub mod Outcomes
