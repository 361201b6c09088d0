-- For our own layers alone: no contract for callers and no claim cites this file.
--
-- What a pass over the records has counted.
--
--   Counted s c          c holds how many records there are of each kind
--   Before s k p         p holds what a pass has met before record k
use Rattle.std.specs.Prelude.{◌≡◌, List, ℕ}
use Rattle.model.specs.Places.{count, largest}
use Rattle.graph.specs.File.{order, is_order, many}
use Rattle.records.specs.declared.Counts.{Counts}
use Rattle.records.specs.declared.Passed.{Passed}

pub record Counted (s : List ℕ) (c : Counts) : Type 0 where
  pub all_kinds : c.kinds ≡ many s 0
  pub all_vertices : c.n ≡ many s 1
  pub all_edges : c.edges ≡ many s 2

pub record Before (s : List ℕ) (k : ℕ) (p : Passed) : Type 0 where
  pub kinds_passed : p.kinds ≡ count (is_order s 0) k
  pub vertices_passed : p.vertices ≡ count (is_order s 1) k
  pub edges_passed : p.edges ≡ count (is_order s 2) k
  pub latest_passed : p.latest ≡ largest (order s) k
