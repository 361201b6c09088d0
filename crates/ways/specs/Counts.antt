-- For our own layers alone: no contract for callers and no claim cites this file.
--
-- The numbers of paths as a table, each cut at 4,097. e is an edge list, st where each vertex's edges begin, w has 0 for each vertex that
-- nobody leads to, t is a table of numbers.
--
--   Counts G t         t has the number of paths from each vertex of G to a sink, cut; unused places are zero
--   onward_by e st t u  the number of u, by those of the vertices that its edges go to: 1 where it has none
--   from_source_of w t v   the number of v where it has no predecessor, else 0
--   whole_by w t n      these added up
use Rattle.std.specs.Prelude.{◌≡◌, List, ℕ, ◌≤◌, ◌<◌, min, eqb, get_or, length}
use Rattle.model.specs.Places.{pick, sum}
use Rattle.model.specs.Graph.{Graph}
use Rattle.model.specs.PathCount.{ways}
use Rattle.summary.specs.Row.{many, nth}

pub record Counts (G : Graph) (t : List ℕ) : Type 0 where
  pub size : length t ≡ 128
  pub number : (v : ℕ) → v < G.n → get_or t v 0 ≡ min 4097 (ways G v)
  pub past : (v : ℕ) → G.n ≤ v → get_or t v 0 ≡ 0

abbrev pub onward_by : List ℕ → List ℕ → List ℕ → ℕ → ℕ
onward_by e st t u = pick (eqb (many st u) 0) 1 (min 4097 (sum (λ k. get_or t (nth e st u k) 0) (many st u)))

abbrev pub from_source_of : List ℕ → List ℕ → ℕ → ℕ
from_source_of w t v = pick (eqb (get_or w v 0) 0) (get_or t v 0) 0

abbrev pub whole_by : List ℕ → List ℕ → ℕ → ℕ
whole_by w t n = min 4097 (sum (from_source_of w t) n)
