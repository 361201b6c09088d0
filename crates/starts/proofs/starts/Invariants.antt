use mathlib.Core.Path.{◌≡◌}
use mathlib.Core.List.{List}
use Prim.Native.Nat.{ℕ, ◌≤◌, ◌<◌}
use lib.ListN.{get_or, length}
use Rattle.starts.specs.Starts.{start_in}
use Rattle.starts.proofs.starts.Given as goal

pub record Filled (l : List ℕ) (m u : ℕ) (list : List ℕ) : Type 0 where
  pub long : length list ≡ 129
  pub below : (v : ℕ) → v < u → get_or list v 0 ≡ start_in l m v
  pub rest : (v : ℕ) → u ≤ v → v < 129 → get_or list v 0 ≡ m

abbrev pub invariant-loop-u : goal.invariant-loop-u
invariant-loop-u l = Filled l.edge l.edges l.u l.list × (l.at ≤ start_in l.edge l.edges l.u)
