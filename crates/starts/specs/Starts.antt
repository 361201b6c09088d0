-- For our own layers alone: no contract for callers and no claim cites this file.
--
-- An edge list: the ends of its edges, where those of each vertex begin in it, and an order of the vertices along it.
--
--   comes_from l i, leads_to l i    the ends of edge i of the list l
--   not_below l u i    edge i of the list l comes from u or a higher number
--   start_in l m u     the first of the first m edges of the list l that comes from u or a higher number, or m where none does
--   first_edge g u     the same of a graph's edges
--   Rows l m n st     the first m edges of l join n vertices and ascend; st says where the edges of each vertex begin
--   Ordered l m n o   o lists each of the n vertices once, and each of the first m edges of l goes from an earlier place to a later one
use Rattle.std.specs.Prelude.{◌≡◌, Bool, List, ℕ, suc, ◌/◌, ◌%◌, ◌≤◌, ◌<◌, leb, get_or, length}
use Rattle.model.specs.Places.{first, table}
use Rattle.graph.specs.declared.Graph.{Graph}

abbrev pub comes_from : List ℕ → ℕ → ℕ
comes_from l i = get_or l i 0 / 256

abbrev pub leads_to : List ℕ → ℕ → ℕ
leads_to l i = get_or l i 0 % 256

abbrev pub not_below : List ℕ → ℕ → ℕ → Bool
not_below l u i = leb u (get_or l i 0 / 256)

unfoldable pub start_in : List ℕ → ℕ → ℕ → ℕ
start_in l m u = first (not_below l u) m

abbrev pub first_edge : Graph → ℕ → ℕ
first_edge g u = start_in g.edge g.edges u

pub record Rows (l : List ℕ) (m n : ℕ) (st : List ℕ) : Type 0 where
  pub few_vertices : n ≤ 128
  pub few_edges : m ≤ 1024
  pub from_known : (i : ℕ) → i < m → comes_from l i < n
  pub to_known : (i : ℕ) → i < m → leads_to l i < n
  pub ascending : (i : ℕ) → suc i < m → get_or l i 0 < get_or l (suc i) 0
  pub begin : st ≡ table (start_in l m) 129

pub record Ordered (l : List ℕ) (m n : ℕ) (o : List ℕ) : Type 0 where
  pub size : length o ≡ 128
  pub known : (j : ℕ) → j < n → get_or o j 0 < n
  pub place : ℕ → ℕ
  pub within : (v : ℕ) → v < n → place v < n
  pub stands : (v : ℕ) → v < n → get_or o (place v) 0 ≡ v
  pub once : (j : ℕ) → j < n → place (get_or o j 0) ≡ j
  pub later : (i : ℕ) → i < m → place (comes_from l i) < place (leads_to l i)
