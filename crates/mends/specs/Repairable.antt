-- Files whose faults mending takes away. The numbers that the reader would give for anything else don't apply: the file is not refused, its
-- types and vertices are as they should be, and of the kept edges there are not too many, they join declared vertices and hold no cycle.
-- Stray bytes, edges from a vertex to itself, doubles and edges out of order are left open.
--
--   joins_kept s u v k     record k is a kept edge from u to v
--   kept_graph s           the graph of the kept edges; of the vertices nothing else is said
--   Repairable s          the only faults of s are the four
use Rattle.std.specs.Prelude.{◌≡◌, Bool, true, false, ◌&&◌, List, ℕ, ◌≤◌, ◌<◌, eqb}
use Rattle.model.specs.Places.{any, count}
use Rattle.model.specs.Graph.{Graph}
use Rattle.model.specs.Cycle.{Acyclic}
use Rattle.graph.specs.File.{records, byte_at, many}
use Rattle.graph.specs.Rules.{rule4, rule5, rule6, rule7}
use Rattle.mends.specs.Mends.{kept}
use Rattle.mends.specs.Answers.{Mendable}

unfoldable pub joins_kept : List ℕ → ℕ → ℕ → ℕ → Bool
joins_kept s u v k = kept s k && (eqb (byte_at s k 1) u && eqb (byte_at s k 2) v)

unfoldable pub kept_graph : List ℕ → Graph
kept_graph s = record {
  n = many s 1;
  kinds = 0;
  kind = λ v. 0;
  cores = λ k. 0;
  wcet = λ v. 0;
  edge = λ u v. any (joins_kept s u v) (records s);
}

pub record Repairable (s : List ℕ) : Type 0 where
  pub mendable : Mendable s
  pub kinds_fit : rule4 s ≡ false
  pub kinds_right : (k : ℕ) → k < records s → rule5 s k ≡ false
  pub vertices_fit : rule6 s ≡ false
  pub vertices_right : (k : ℕ) → k < records s → rule7 s k ≡ false
  pub edges_fit : count (kept s) (records s) ≤ 1024
  pub from_declared : (k : ℕ) → k < records s → kept s k ≡ true → byte_at s k 1 < many s 1
  pub to_declared : (k : ℕ) → k < records s → kept s k ≡ true → byte_at s k 2 < many s 1
  pub no_cycle : Acyclic (kept_graph s)
