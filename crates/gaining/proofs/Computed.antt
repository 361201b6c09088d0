-- The gain as a function that computes, for small graphs.
use Prim.Native.Nat.{ℕ, ◌+◌, ◌-◌, ◌<◌}
use Rattle.model.specs.Graph.{Graph, WellFormed}
use Rattle.model.specs.Cycle.{Acyclic}
use Rattle.model.specs.Bounds.{scaled}
use Rattle.model.specs.Gain.{GainOf}
use Rattle.model.proofs.Joined.{without}
use Rattle.model.proofs.Gains.{share_of, gain_law}
use Rattle.paths.proofs.Computed.{greatest_of, greatest_computed}

unfoldable pub gain_found : Graph → ℕ → ℕ
gain_found G v = greatest_of G (scaled G) - greatest_of G (without (scaled G) v) + share_of G v

-- THEOREM. What is computed is the gain.
pub gain_computed : {G : Graph} → WellFormed G → Acyclic G → (v : ℕ) → v < G.n → GainOf G v (gain_found G v)
unfolding gain_found
gain_computed {G} W A v l = gain_law W v l (greatest_computed W A (scaled G)) (greatest_computed W A (without (scaled G) v))
