-- The log, the schedule that it records, the numbers that say no, and the answer. Read in this order.
pub mod Log
pub mod Recorded
pub mod Rules
pub mod Judge
-- The log of a schedule.
pub mod LogOf
