-- For our own layers alone: no contract for callers and no claim cites this file.
--
--   gathered t s w    w is in the set s, or in the row of a member of s
--   Lined g o n p     o is an order of the n vertices of the accepted graph g along its edges, and p has the predecessors of each
use Rattle.std.specs.Prelude.{◌≡◌, Bool, ◌&&◌, ◌||◌, List, ℕ}
use Rattle.model.specs.Places.{any}
use Rattle.graph.specs.declared.Graph.{Graph}
use Rattle.graph.specs.Model.{AcceptedGraph}
use Rattle.starts.specs.Starts.{Ordered}
use Rattle.vset.specs.declared.Vset.{Vset}
use Rattle.vset.specs.Members.{is_in}
use Rattle.sets.specs.Sets.{row_of, Holds}
use Rattle.rows.specs.Rows.{predecessor}

unfoldable pub gathered : List (List ℕ) → Vset → ℕ → Bool
gathered t s w = is_in s w || any (λ u. is_in s u && is_in (row_of t u) w) 128

pub record Lined (g : Graph) (o : List ℕ) (n : ℕ) (p : List (List ℕ)) : Type 0 where
  pub accepted : AcceptedGraph g
  pub order : Ordered g.edge g.edges g.n o
  pub vertices : n ≡ g.n
  pub predecessors : Holds p (predecessor g.edge g.edges)
