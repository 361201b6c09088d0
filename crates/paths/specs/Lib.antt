-- Sums along paths, as tables over the vertices. Read in this order. Only contracts of functions for our own layers cite these: what the
-- entries give is said in `bounds` with the definitions of `model`.
pub mod Ahead
pub mod Along
pub mod Trace
