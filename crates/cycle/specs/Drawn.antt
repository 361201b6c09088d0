-- For our own layers alone: no contract for callers and no claim cites this file.
--
--   drawn e n m        the graph of n vertices whose edges are the first m of the list e, with nothing else in it
use Rattle.std.specs.Prelude.{List, [], ℕ}
use Rattle.graph.specs.declared.Graph.{Graph}

unfoldable pub drawn : List ℕ → ℕ → ℕ → Graph
drawn e n m = record { kinds = 0; n = n; edges = m; cores = []; kind = []; wcet = []; edge = e }
