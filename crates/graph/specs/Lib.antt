-- The file, what the reader hands back, and the numbers that say no. Read in this order.
pub mod File
pub mod Answer
pub mod Model
pub mod Rules
pub mod Judge
pub mod Said
