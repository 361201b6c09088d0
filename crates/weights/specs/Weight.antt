-- For our own layers alone: no contract for callers and no claim cites this file.
--
-- What a vertex weighs (document 003, definition 3.1), by either measure, and the lists that it is made from.
--
--   rate_of by m            what a tick weighs on a kind of m cores: plain, 1; scaled, PARTS - PARTS / m
--   rates_of by m s         the same of the kind s, from the list m of cores
--   weight_by by G          the weight of each vertex of G: its WCET, or its scaled weight
--   stages k c m kinds n   the graph of n vertices of the kinds k, with the WCETs c, on kinds of m cores; edges do not count here
--   Small G                the limits that keep every sum below 2^64
use Rattle.std.specs.Prelude.{false, List, ℕ, ◌-◌, ◌*◌, ◌/◌, ◌≤◌, ◌<◌, get_or}
use Rattle.model.specs.Graph.{Graph}
use Rattle.model.specs.Bounds.{PARTS}
use Rattle.weights.specs.declared.Measure.{Measure}
use Rattle.weights.specs.declared.Measure.TheVariants.{Plain, Scaled}

abbrev pub rate_of : Measure → ℕ → ℕ
rate_of Plain m = 1
rate_of Scaled m = PARTS - PARTS / m

unfoldable pub rates_of : Measure → List ℕ → ℕ → ℕ
rates_of by m s = rate_of by (get_or m s 0)

unfoldable pub weight_by : Measure → Graph → ℕ → ℕ
weight_by by G v = G.wcet v * rate_of by (G.cores (G.kind v))

abbrev pub stages : List ℕ → List ℕ → List ℕ → ℕ → ℕ → Graph
stages k c m kinds n = record {
  n = n;
  kinds = kinds;
  kind = λ v. get_or k v 0;
  cores = λ s. get_or m s 0;
  wcet = λ v. get_or c v 0;
  edge = λ u v. false;
}

pub record Small (G : Graph) : Type 0 where
  pub few_kinds : G.kinds ≤ 10
  pub few_vertices : G.n ≤ 128
  pub kind_known : (v : ℕ) → v < G.n → G.kind v < G.kinds
  pub some_core : (s : ℕ) → s < G.kinds → 0 < G.cores s
  pub short : (v : ℕ) → v < G.n → G.wcet v ≤ 1000000
