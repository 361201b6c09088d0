-- The bounds and the path as functions that compute.
use mathlib.Core.Path.{refl}
use mathlib.Core.List.{List}
use Prim.Native.Nat.{ℕ, ◌+◌, ◌-◌, ◌*◌, ◌/◌}
use Rattle.model.specs.Graph.{Graph, WellFormed}
use Rattle.model.specs.Cycle.{Acyclic}
use Rattle.model.specs.Bounds.{PARTS, scaled, volume, most_cores_of, OldB, NewB1, ThePath}
use Rattle.paths.proofs.Computed.{greatest_of, least_of, greatest_computed, least-longest_computed}

unfoldable pub old_of : Graph → ℕ
old_of G = (PARTS - PARTS / most_cores_of G) * greatest_of G G.wcet + volume G

unfoldable pub new_found : Graph → ℕ
new_found G = greatest_of G (scaled G) + volume G

unfoldable pub path_found : Graph → List ℕ
path_found G = least_of G (scaled G)

-- THEOREM. What is computed is OLD-B, NEW-B-1 and the path.
pub old_b_computed : {G : Graph} → WellFormed G → Acyclic G → OldB G (old_of G)
unfolding old_of
old_b_computed {G} W A = record { len = greatest_of G G.wcet; longest = greatest_computed W A G.wcet; is = refl }

pub new_b_1_computed : {G : Graph} → WellFormed G → Acyclic G → NewB1 G (new_found G)
unfolding new_found
new_b_1_computed {G} W A = record { len = greatest_of G (scaled G); longest = greatest_computed W A (scaled G); is = refl }

pub path_computed : {G : Graph} → WellFormed G → Acyclic G → ThePath G (path_found G)
unfolding path_found
path_computed {G} W A = least-longest_computed W A (scaled G)
