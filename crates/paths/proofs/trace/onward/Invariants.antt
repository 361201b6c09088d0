use Prim.Native.Nat.{ℕ, ◌≤◌, ◌<◌}
use lib.ListN.{get_or}
use Rattle.paths.specs.Trace.{Keeps}
use Rattle.paths.proofs.trace.onward.Given as goal

abbrev pub invariant-loop-i : goal.invariant-loop-i
invariant-loop-i l = (j : ℕ) → get_or l.start l.u 0 ≤ j → j < l.i → Keeps l.edge l.weight l.sums l.u j → ⊥
