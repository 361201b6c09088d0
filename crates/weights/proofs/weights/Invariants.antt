use mathlib.Core.Path.{◌≡◌}
use mathlib.Core.List.{List}
use Prim.Native.Nat.{ℕ, ◌*◌}
use lib.ListN.{get_or}
use Rattle.model.specs.Places.{padded}
use Rattle.weights.proofs.weights.Given as goal

-- what a vertex weighs by the rates
unfoldable pub weighted : List ℕ → List ℕ → List ℕ → ℕ → ℕ
weighted kind wcet rate u = get_or wcet u 0 * get_or rate (get_or kind u 0) 0

abbrev pub invariant-loop-v : goal.invariant-loop-v
invariant-loop-v l = (l.list ≡ padded 128 (weighted l.kind l.wcet l.rate) l.v)
