-- What the promises are said with. Read in this order.
pub mod Entries
pub mod Claims
pub mod Worked
-- What order 3's theorems alone are said with: the judgement before it.
pub mod Former
