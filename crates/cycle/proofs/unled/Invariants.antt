use Prim.Native.Nat.{◌≤◌}
use Rattle.cycle.specs.Line.{Unled}
use Rattle.cycle.proofs.unled.Given as goal

abbrev pub invariant-loop-v : goal.invariant-loop-v
invariant-loop-v l = (l.found ≤ l.v) × Unled l.waiting l.v l.order l.found
