-- The reader's value as a graph of the model, and what an accepted graph is.
--
--   from g i, to g i     the ends of edge i
--   as_model g            the graph of the model that the counts and lists give
--   AcceptedGraph g      what every layer above the reader may rely on
use Rattle.std.specs.Prelude.{◌≡◌, Bool, ◌&&◌, ℕ, suc, ◌/◌, ◌%◌, ◌≤◌, ◌<◌, eqb, get_or}
use Rattle.model.specs.Places.{any}
use Rattle.model.specs.Graph.{WellFormed}
use Rattle.model.specs.Graph as model
use Rattle.model.specs.Cycle.{Acyclic}
use Rattle.graph.specs.declared.Graph.{Graph}

unfoldable pub from : Graph → ℕ → ℕ
from g i = get_or g.edge i 0 / 256

unfoldable pub to : Graph → ℕ → ℕ
to g i = get_or g.edge i 0 % 256

unfoldable pub joins : Graph → ℕ → ℕ → ℕ → Bool
joins g u v i = eqb (from g i) u && eqb (to g i) v

unfoldable pub as_model : Graph → model.Graph
as_model g = record {
  n = g.n;
  kinds = g.kinds;
  kind = λ v. get_or g.kind v 0;
  cores = λ s. get_or g.cores s 0;
  wcet = λ v. get_or g.wcet v 0;
  edge = λ u v. any (joins g u v) g.edges;
}

pub record AcceptedGraph (g : Graph) : Type 0 where
  pub few_kinds : g.kinds ≤ 10
  pub some_vertex : 0 < g.n
  pub few_vertices : g.n ≤ 128
  pub few_edges : g.edges ≤ 1024
  pub well_formed : WellFormed (as_model g)
  pub acyclic : Acyclic (as_model g)
  pub short : (v : ℕ) → v < g.n → get_or g.wcet v 0 ≤ 1000000
  pub from_known : (i : ℕ) → i < g.edges → from g i < g.n
  pub to_known : (i : ℕ) → i < g.edges → to g i < g.n
  pub ascending : (i : ℕ) → suc i < g.edges → get_or g.edge i 0 < get_or g.edge (suc i) 0
  pub kind_past : (v : ℕ) → g.n ≤ v → get_or g.kind v 0 ≡ 0
  pub wcet_past : (v : ℕ) → g.n ≤ v → get_or g.wcet v 0 ≡ 0
