-- For our own layers alone: the first point in which a board is not at least as good as another. `proofs/Good` says what it is for there to be none.
--
--   lower a b i       the place i of b is below that of a
--   differ a b i      the places i differ
--   is_new_of a n b i     the place i of b is none of the first n of a
--   below i n             the place i where it is below n, else none
--   edge_point g h     as good where h has the edges of g, else its first edge that g has not, else fewer edges: some are missing
--   stage_point g h    the first stage of another type, then the first whose WCET is larger, then the edges
--   point_of g h       another number of types, or of stages, then the first type that has fewer cores, then the stages
--   IsAsGood p            p says that h is as good, but perhaps for edges that are missing
use Rattle.std.specs.Prelude.{◌≡◌, Bool, not, List, ℕ, Option, Some, None, eqb, ltb, get_or}
use mathlib.Core.Logic.{◌⊎◌}
use Rattle.model.specs.Places.{pick, any, first}
use Rattle.graph.specs.declared.Graph.{Graph}
use Rattle.boards.specs.declared.Point.{Point}
use Rattle.boards.specs.declared.Point.TheVariants.{AsGood, FewerEdges, Kinds, Stages, Cores, Kind, Wcet, Edge}

unfoldable pub lower : List ℕ → List ℕ → ℕ → Bool
lower a b i = ltb (get_or b i 0) (get_or a i 0)

unfoldable pub differ : List ℕ → List ℕ → ℕ → Bool
differ a b i = not (eqb (get_or a i 0) (get_or b i 0))

unfoldable pub is_new_of : List ℕ → ℕ → List ℕ → ℕ → Bool
is_new_of a n b i = not (any (λ j. eqb (get_or a j 0) (get_or b i 0)) n)

abbrev pub below : ℕ → ℕ → Option ℕ
below i n = pick (ltb i n) (Some i) None

-- the point at the place, where there is one below n; else what follows
unfoldable pub found : (ℕ → Point) → ℕ → ℕ → Point → Point
found point at n rest = pick (ltb at n) (point at) rest

unfoldable pub new_point : Graph → Graph → Point
new_point g h = found Edge (first (is_new_of g.edge g.edges h.edge) h.edges) h.edges FewerEdges

unfoldable pub edge_point : Graph → Graph → Point
edge_point g h =
    pick (eqb g.edges h.edges) (pick (ltb (first (differ g.edge h.edge) g.edges) g.edges) (new_point g h) AsGood) (new_point g h)

unfoldable pub stage_point : Graph → Graph → Point
stage_point g h =
    found Kind (first (differ g.kind h.kind) g.n) g.n
    (found Wcet (first (lower h.wcet g.wcet) g.n) g.n (edge_point g h))

unfoldable pub point_of : Graph → Graph → Point
point_of g h =
    pick (eqb g.kinds h.kinds)
    (pick (eqb g.n h.n) (found Cores (first (lower g.cores h.cores) g.kinds) g.kinds (stage_point g h)) Stages)
    Kinds

abbrev pub IsAsGood : Point → Type 0
IsAsGood p = (p ≡ AsGood) ⊎ (p ≡ FewerEdges)
