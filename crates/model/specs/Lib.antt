-- What the words of document 01 (the scope) and of document 003 (Han and others) mean. Read in this order.
pub mod Places
pub mod Graph
pub mod Cycle
pub mod Path
pub mod Bounds
pub mod Second
pub mod PathCount
pub mod Visit
pub mod Gain
pub mod Summary
pub mod Ranking
pub mod Better
pub mod Schedule
pub mod Placing
pub mod ListSchedule
