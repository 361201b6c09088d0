-- The pass of number 18, and its answer; the totals; the last records:
pub mod Passing
pub mod Forming
pub mod Clocks
pub mod Lasting
pub mod Outcomes
