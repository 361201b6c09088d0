-- Paths, and the largest value along one (document 01: "A complete path goes from source to sink along edges").
--
-- A path is the list of its vertices. Nothing here says that there is one source or one sink only.
--
--   ToSink G p            each vertex of p is joined to the next by an edge, and the last is a sink
--   Complete G p          a path to a sink whose first vertex is a source
--   Greatest G value x    x is the largest value of a complete path: one attains it, and none exceeds it
--   Before p q            p has the smaller vertex number at the first difference
--   LeastLongest G f p    a complete path with the largest sum of f; of several, the one before the others
use Rattle.std.specs.Prelude.{◌≡◌, List, [], ◌∷◌, ◌⊎◌, ℕ, ◌≤◌, ◌<◌}
use Rattle.model.specs.Places.{along}
use Rattle.model.specs.Graph.{Graph, Edge, Source, Sink}

pub data ToSink (G : Graph) : List ℕ → Type 0 where
  end : {v : ℕ} → v < G.n → Sink G v → ToSink G (v ∷ [])
  link : {u v : ℕ} {p : List ℕ} → Edge G u v → ToSink G (v ∷ p) → ToSink G (u ∷ (v ∷ p))

pub data Complete (G : Graph) : List ℕ → Type 0 where
  complete : {u : ℕ} {p : List ℕ} → Source G u → ToSink G (u ∷ p) → Complete G (u ∷ p)

pub record Greatest (G : Graph) (value : List ℕ → ℕ) (x : ℕ) : Type 0 where
  pub path : List ℕ
  pub is_complete : Complete G path
  pub attained : value path ≡ x
  pub unexceeded : (p : List ℕ) → Complete G p → value p ≤ x

pub data Before : List ℕ → List ℕ → Type 0 where
  here : {u v : ℕ} {p q : List ℕ} → u < v → Before (u ∷ p) (v ∷ q)
  later : {u : ℕ} {p q : List ℕ} → Before p q → Before (u ∷ p) (u ∷ q)

pub record LeastLongest (G : Graph) (f : ℕ → ℕ) (p : List ℕ) : Type 0 where
  pub is_complete : Complete G p
  pub longest : (q : List ℕ) → Complete G q → along f q ≤ along f p
  pub least : (q : List ℕ) → Complete G q → along f q ≡ along f p → (q ≡ p) ⊎ Before p q
