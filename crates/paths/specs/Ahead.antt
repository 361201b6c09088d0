-- For our own layers alone: no contract for callers and no claim cites this file.
--
-- What lies ahead of a vertex: the weights of the vertices after it on a path to a sink. Its own weight does not count, so
-- that a sink has 0 ahead of it, and the sum of a path is the first vertex's weight and what lies ahead.
--
--   weigh w v         the weight of v in the list w
--   Ahead G f v x     x is the largest sum of f ahead of v: one path attains it, and none exceeds it
--   sum_at f s v       v's own weight and what lies ahead: the largest sum of a path from v
--   Light G w         no weight is above 1,000,000 ticks in parts
--   Longest G f s     the table s holds the largest sum ahead of each vertex; unused places are zero
--   Head G value h    of the sources, h has the largest value; of several, it is the first
--   Summed G f r      r has both: the table, and the source where the longest path begins
--   RowsOf g e st     e is the edge list of the accepted graph g, and st the starts of its vertices' edges
--   Weighed g e st o n w  the same; o is an order of its vertices along the edges, n is their number, and w are light weights for them
--   Sources g l       of the vertices of g, the list l has 0 at the sources
use Rattle.std.specs.Prelude.{◌≡◌, List, ◌∷◌, ℕ, ◌+◌, ◌≤◌, ◌<◌, eqb, get_or, length}
use Rattle.model.specs.Places.{along, table}
use Rattle.model.specs.Graph.{Graph, Source, source}
use Rattle.model.specs.Path.{ToSink}
use Rattle.graph.specs.declared.Graph as reader
use Rattle.graph.specs.Model.{AcceptedGraph, as_model}
use Rattle.starts.specs.Starts.{first_edge, Ordered}
use Rattle.paths.specs.declared.ahead.Sums.{Sums}

abbrev pub weigh : List ℕ → ℕ → ℕ
weigh w v = get_or w v 0

abbrev pub sum_at : (ℕ → ℕ) → (ℕ → ℕ) → ℕ → ℕ
sum_at f s v = f v + s v

abbrev pub Light : Graph → List ℕ → Type 0
Light G w = (v : ℕ) → v < G.n → weigh w v ≤ 720720000000

pub record Ahead (G : Graph) (f : ℕ → ℕ) (v x : ℕ) : Type 0 where
  pub path : List ℕ
  pub to_sink : ToSink G (v ∷ path)
  pub attained : along f path ≡ x
  pub unexceeded : (p : List ℕ) → ToSink G (v ∷ p) → along f p ≤ x

pub record Longest (G : Graph) (f : ℕ → ℕ) (s : List ℕ) : Type 0 where
  pub size : length s ≡ 128
  pub ahead : (v : ℕ) → v < G.n → Ahead G f v (get_or s v 0)
  pub past : (v : ℕ) → G.n ≤ v → get_or s v 0 ≡ 0

pub record Head (G : Graph) (value : ℕ → ℕ) (h : ℕ) : Type 0 where
  pub known : h < G.n
  pub is_source : Source G h
  pub most : (u : ℕ) → u < G.n → Source G u → value u ≤ value h
  pub first : (u : ℕ) → u < h → Source G u → value u < value h

pub record Summed (G : Graph) (f : ℕ → ℕ) (r : Sums) : Type 0 where
  pub longest : Longest G f r.ahead
  pub head : Head G (sum_at f (weigh r.ahead)) r.head

pub record RowsOf (g : reader.Graph) (e st : List ℕ) : Type 0 where
  pub accepted : AcceptedGraph g
  pub edge : e ≡ g.edge
  pub starts : st ≡ table (first_edge g) 129

pub record Weighed (g : reader.Graph) (e st o : List ℕ) (n : ℕ) (w : List ℕ) : Type 0 where
  pub rows : RowsOf g e st
  pub order : Ordered e g.edges g.n o
  pub vertices : n ≡ g.n
  pub light : Light (as_model g) w

abbrev pub Sources : reader.Graph → List ℕ → Type 0
Sources g l = (v : ℕ) → v < g.n → eqb (get_or l v 0) 0 ≡ source (as_model g) v
