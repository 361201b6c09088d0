use mathlib.Core.Path.{◌≡◌}
use mathlib.Core.Bool.{false}
use Prim.Native.Nat.{ℕ, ◌<◌}
use Rattle.times.specs.Times.{too_long_of}
use Rattle.times.proofs.first_too_long.Given as goal

abbrev pub invariant-loop-v : goal.invariant-loop-v
invariant-loop-v l =
    (u : ℕ) → u < l.v → too_long_of l.wcet l.times u ≡ false
