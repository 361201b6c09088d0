-- What is proved of the definitions.
--
-- Ranks by keys, where the records land, the bytes of the mended file:
pub mod Ranking
pub mod Ends
pub mod Landing
pub mod Built
-- A file that needs no mend; mending again; the reader's numbers:
pub mod Tidy
pub mod Again
pub mod Reader
pub mod Carried
-- The list, and that nothing unlisted happened:
pub mod Listing
pub mod Ordered
pub mod Redone
pub mod Unchanged
-- The order's sentences over the answer and the buffers; a worked file:
pub mod Answering
pub mod Worked
