-- For our own layers alone: no contract for callers and no claim cites this file.
--
-- What stands in the rows of a table. e is an edge list, and st where each vertex's edges begin.
--
--   below G v w              w is a descendant of the vertex v
--   beside G v w             w is a vertex that is parallel to the vertex v
--   reached_by e st t u k w   one of the first k edges of u goes to w, or to a vertex whose row in the table t has w
use Rattle.std.specs.Prelude.{Bool, ◌&&◌, ◌||◌, List, ℕ, eqb, ltb}
use Rattle.model.specs.Places.{any}
use Rattle.model.specs.Graph.{Graph}
use Rattle.model.specs.Cycle.{ancestor}
use Rattle.model.specs.Second.{parallel}
use Rattle.vset.specs.Members.{is_in}
use Rattle.sets.specs.Sets.{row_of}
use Rattle.summary.specs.Row.{nth}

unfoldable pub below : Graph → ℕ → ℕ → Bool
below G v w = ltb v G.n && ancestor G v w

unfoldable pub beside : Graph → ℕ → ℕ → Bool
beside G v w = ltb v G.n && (ltb w G.n && parallel G w v)

abbrev pub reached_by : List ℕ → List ℕ → List (List ℕ) → ℕ → ℕ → ℕ → Bool
reached_by e st t u k w = any (λ j. is_in (row_of t (nth e st u j)) w || eqb w (nth e st u j)) k
