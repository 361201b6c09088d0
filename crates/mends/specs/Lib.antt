-- What is mended, the mended file, the list of what was done, and the answer. Read in this order.
pub mod Mends
pub mod Mended
pub mod Listed
pub mod Redo
pub mod Answers
-- What the theorems say of them:
pub mod Kept
pub mod Repairable
