-- A typed graph (document 003, section 2; document 01, "The graph").
--
-- The graph is a record of functions on numbers: what it says of a vertex from n on, or of a kind from `kinds` on, is never
-- read. An edge is a test, so that whether there is one can always be told. "Kind" is document 01's "type".
--
--   Graph           n vertices, each of a kind and with a WCET; kinds, each with a number of cores; edges
--   Edge G u v      there is an edge from u to v: u is a predecessor of v
--   Source G v      v has no predecessor             source G v   the same, as a test
--   Sink G v        v has no successor               sink G v     the same, as a test
--   WellFormed G    some vertex; edges join declared vertices; kinds are declared; each kind has 1 to 16 cores
use Rattle.std.specs.Prelude.{◌≡◌, Bool, true, not, ℕ, ◌≤◌, ◌<◌}
use Rattle.model.specs.Places.{any}

pub record Graph : Type 0 where
  pub n : ℕ
  pub kinds : ℕ
  pub kind : ℕ → ℕ
  pub cores : ℕ → ℕ
  pub wcet : ℕ → ℕ
  pub edge : ℕ → ℕ → Bool

abbrev pub Edge : Graph → ℕ → ℕ → Type 0
Edge G u v = G.edge u v ≡ true

abbrev pub Source : Graph → ℕ → Type 0
Source G v = (u : ℕ) → Edge G u v → ⊥

abbrev pub Sink : Graph → ℕ → Type 0
Sink G v = (u : ℕ) → Edge G v u → ⊥

unfoldable pub source : Graph → ℕ → Bool
source G v = not (any (λ u. G.edge u v) G.n)

unfoldable pub sink : Graph → ℕ → Bool
sink G v = not (any (λ u. G.edge v u) G.n)

pub record WellFormed (G : Graph) : Type 0 where
  pub some : 0 < G.n
  pub from : (u v : ℕ) → Edge G u v → u < G.n
  pub to : (u v : ℕ) → Edge G u v → v < G.n
  pub kind_known : (v : ℕ) → v < G.n → G.kind v < G.kinds
  pub some_core : (s : ℕ) → s < G.kinds → 0 < G.cores s
  pub few_cores : (s : ℕ) → s < G.kinds → G.cores s ≤ 16
