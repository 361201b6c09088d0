-- For our own layers alone: no contract for callers and no claim cites this file.
--
-- How the complete paths are visited: one after the other by their numbers, with two things kept of the path walked so far: the set of the
-- vertices beside it, and its second value. That this visits every complete path once, and finds its value, is proved in proofs/Counted and
-- proofs/Visit.
--
--   amid m a n i          the i-th of all, where m 0 lists a 0 0, a 0 1, .. come first, then m 1 lists a 1 0, .. , up to the n-th family
--   path_within G k v i    the i-th path from v to a sink of at most k vertices: over its least successor first, then over the next
--   path_at G i            the i-th complete path
--   nothing               the empty set
--   fresh G U v w         w is parallel to v and not in the set U
--   widened G U v         the set U with those parallel to v
--   gained G U v          what v adds to the value of a path, U being beside it already: one share serves all that are fresh, since they are of v's kind
--   value_from G U x p     the value of the path that goes on with p, where it has the value x and U is beside it
use Rattle.std.specs.Prelude.{Bool, false, not, ◌&&◌, ◌||◌, List, [], ◌∷◌, ℕ, zero, suc, ◌+◌, ◌-◌, ◌*◌, ◌/◌, ltb}
use Rattle.model.specs.Places.{pick, sum}
use Rattle.model.specs.Graph.{Graph, source, sink}
use Rattle.model.specs.Bounds.{PARTS}
use Rattle.model.specs.Second.{parallel}
use Rattle.model.specs.PathCount.{ways_within, ways}

unfoldable pub amid : (ℕ → ℕ) → (ℕ → ℕ → List ℕ) → ℕ → ℕ → List ℕ
amid m a zero i = []
amid m a (suc n) i = pick (ltb i (sum m n)) (amid m a n i) (a n (i - sum m n))

unfoldable pub path_within : Graph → ℕ → ℕ → ℕ → List ℕ
path_within G zero v = λ i. []
path_within G (suc k) v = λ i. v ∷ pick (sink G v) [] (amid (λ u. pick (G.edge v u) (ways_within G k u) 0) (λ u. path_within G k u) G.n i)

unfoldable pub path_at : Graph → ℕ → List ℕ
path_at G = amid (λ v. pick (source G v) (ways G v) 0) (λ v. path_within G G.n v) G.n

abbrev pub nothing : ℕ → Bool
nothing w = false

unfoldable pub fresh : Graph → (ℕ → Bool) → ℕ → ℕ → Bool
fresh G U v w = not (U w) && parallel G w v

abbrev pub widened : Graph → (ℕ → Bool) → ℕ → ℕ → Bool
widened G U v w = U w || parallel G w v

unfoldable pub gained : Graph → (ℕ → Bool) → ℕ → ℕ
gained G U v = G.wcet v * PARTS + sum (λ w. pick (fresh G U v w) (G.wcet w) 0) G.n * (PARTS / G.cores (G.kind v))

unfoldable pub value_from : Graph → (ℕ → Bool) → ℕ → List ℕ → ℕ
value_from G U x [] = x
value_from G U x (v ∷ p) = value_from G (widened G U v) (x + gained G U v) p
