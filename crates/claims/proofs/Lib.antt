-- The promises. Each file's statements can be read by themselves; the proofs are citations.
pub mod Demand1
pub mod Demand2
pub mod Demand3
pub mod Called
pub mod Worked
-- What the orders brought.
pub mod Order1
pub mod Order2
pub mod Order3
pub mod Order4
pub mod Order5
pub mod Order6
pub mod Order7
pub mod Order8
pub mod Order9
pub mod Order10
pub mod Order11
pub mod Order12
pub mod Order13
-- What pictures rest on.
pub mod Charts
-- What they cite of this crate.
pub mod Entries
pub mod Judged
pub mod Numbers
pub mod Lent
pub mod Running
pub mod Ending
