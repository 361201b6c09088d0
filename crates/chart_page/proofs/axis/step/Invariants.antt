use Prim.Native.Nat.{◌+◌, ◌-◌, ◌*◌, ◌≤◌, ◌<◌}
use Rattle.chart_page.proofs.axis.step.Given as goal

abbrev pub invariant-loop-m : goal.invariant-loop-m
invariant-loop-m l = (0 < l.m) × (5 * l.m ≤ l.need + 5)

abbrev pub decreases-loop-m : goal.decreases-loop-m
decreases-loop-m l = l.need - l.m
