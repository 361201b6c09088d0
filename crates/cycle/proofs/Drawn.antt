-- What is said of the edge list alone is said of the graph.
use mathlib.Core.Path.{◌≡◌, refl, ap}
use mathlib.Core.Bool.{Bool, ◌&&◌}
use Prim.Native.Nat.{ℕ, zero, suc}
use Rattle.model.specs.Cycle.{walks, cyclic}
use Rattle.model.proofs.Places.{any_ext}
use Rattle.graph.specs.Model.{from, to, joins, as_model}
use Rattle.graph.specs.declared.Graph.{Graph}
use Rattle.cycle.specs.Drawn.{drawn}

drawn-walks : (g : Graph) (r v : ℕ) → walks (as_model (drawn g.edge g.n g.edges)) r v ≡ walks (as_model g) r v
unfolding drawn walks as_model joins from to
drawn-walks g zero v = refl
drawn-walks g (suc r) v = any_ext _ _ g.n (λ u l. ap (λ (b : Bool). (as_model g).edge u v && b) (drawn-walks g r u))

pub drawn-cyclic : (g : Graph) → cyclic (as_model (drawn g.edge g.n g.edges)) ≡ cyclic (as_model g)
unfolding drawn cyclic as_model
drawn-cyclic g = any_ext _ _ g.n (λ v l. drawn-walks g g.n v)
