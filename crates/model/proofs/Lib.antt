-- What is proved of the definitions.
--
-- Laws of the combinators, for all crates:
pub mod Bools
pub mod Places
pub mod Sums
pub mod Tables
pub mod That
pub mod Turns
pub mod Written
-- Graphs: cycles and ranks, paths, the largest sum along a path:
pub mod Cycles
pub mod Paths
-- Schedules: finished and ready, and the tests for them; the argument behind every bound:
pub mod Finished
pub mod Tests
pub mod Potential
pub mod Tick
pub mod Same
-- The bounds: parts of a tick, the largest sum along a path, NEW-B-1 and OLD-B; the number of complete paths; NEW-B-2:
pub mod Shares
pub mod Longest
pub mod NewB1
pub mod Compare
pub mod Numbered
pub mod Counted
pub mod Ways
pub mod Parallel
pub mod Values
pub mod NewB2
pub mod Visit
-- Gains: paths put together and taken apart, sums that end and start at a vertex, the longest path without a vertex's weight, the ranking:
pub mod Joined
pub mod Summaries
pub mod Scanned
pub mod Alike
pub mod Gains
pub mod Rankings
-- Better hardware, less work, fewer edges:
pub mod Better
pub mod Changes
pub mod Removed
-- The theorem of demand 3:
pub mod Demand3
-- Schedules that name their cores: that they are the work-conserving ones, and demand 3 for them:
pub mod Cores
-- The list schedule: it is work conserving, it ends, and it can leap:
pub mod Listed
pub mod Leap
