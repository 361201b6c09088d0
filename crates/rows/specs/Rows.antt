-- For our own layers alone: no contract for callers and no claim cites this file.
--
-- Predecessors and ancestors as rows: in row v of a table stand the predecessors, or the ancestors, of the vertex v.
--
--   predecessor l m v u    one of the first m edges of the list l goes from u to v: u is a predecessor of v
--   above G v u            u is an ancestor of the vertex v
--   Kin g p a              the table p has the predecessors of each vertex of g, and the table a its ancestors
--   ones_among t v             how many ones row v of the table t has
--   led_by t v              1 where it has one, else 0
use Rattle.std.specs.Prelude.{Bool, ◌&&◌, List, ℕ, eqb, ltb}
use Rattle.model.specs.Places.{bit, any, count}
use Rattle.model.specs.Graph.{Graph}
use Rattle.model.specs.Cycle.{ancestor}
use Rattle.graph.specs.declared.Graph as reader
use Rattle.graph.specs.Model.{as_model}
use Rattle.starts.specs.Starts.{comes_from, leads_to}
use Rattle.vset.specs.Members.{is_in}
use Rattle.sets.specs.Sets.{row_of, Holds}

unfoldable pub predecessor : List ℕ → ℕ → ℕ → ℕ → Bool
predecessor l m v u = any (λ i. eqb (comes_from l i) u && eqb (leads_to l i) v) m

unfoldable pub above : Graph → ℕ → ℕ → Bool
above G v u = ltb v G.n && ancestor G u v

pub record Kin (g : reader.Graph) (p a : List (List ℕ)) : Type 0 where
  pub predecessors : Holds p (predecessor g.edge g.edges)
  pub ancestors : Holds a (above (as_model g))

unfoldable pub ones_among : List (List ℕ) → ℕ → ℕ
ones_among t v = count (is_in (row_of t v)) 128

unfoldable pub led_by : List (List ℕ) → ℕ → ℕ
led_by t v = bit (any (is_in (row_of t v)) 128)
