use Prim.Native.Nat.{ℕ, ◌<◌}
use mathlib.Core.Path.{◌≡◌}
use mathlib.Core.Bool.{false}
use Rattle.model.specs.Places.{largest}
use Rattle.graph.specs.File.{order}
use Rattle.graph.specs.Rules.{rule3}
use Rattle.mend.proofs.judge.first_late.Given as goal

abbrev pub invariant-loop-k : goal.invariant-loop-k
invariant-loop-k l = ((j : ℕ) → j < l.k → rule3 l.file j ≡ false) × (l.latest ≡ largest (order l.file) l.k)
