-- Sums ahead of the vertices, each once its successors' are done, and the source that has the largest:
pub mod Along
pub mod Heads
pub mod Sums
-- The sum of the longest path:
pub mod Complete
-- The least path that attains it:
pub mod Traces
pub mod Tracing
-- The same as functions that compute:
pub mod Computed
-- What each public contract leaves open: nothing.
pub mod Unique
pub mod Outcomes
