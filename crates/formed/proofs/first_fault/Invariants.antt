use Prim.Native.Nat.{ℕ, ◌<◌}
use mathlib.Core.Path.{◌≡◌}
use mathlib.Core.Bool.{false}
use Rattle.recorded.specs.Log.{fault}
use Rattle.formed.specs.Passing.{MetBy}
use Rattle.formed.proofs.first_fault.Given as goal

abbrev pub invariant-loop-k : goal.invariant-loop-k
invariant-loop-k l = ((j : ℕ) → j < l.k → fault l.n l.log j ≡ false) × MetBy l.log l.k l.p
