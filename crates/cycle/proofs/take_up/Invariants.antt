use Prim.Native.Nat.{◌-◌}
use Rattle.waiting.specs.Waiting.{edges_by}
use Rattle.cycle.specs.Line.{everyone, Line}
use Rattle.cycle.proofs.take_up.Given as goal

abbrev pub invariant-loop-told : goal.invariant-loop-told
invariant-loop-told l = Line l.edge (edges_by l.starts) (everyone l.initial.waiting l.first) l.waiting l.order l.told l.found

abbrev pub decreases-loop-told : goal.decreases-loop-told
decreases-loop-told l = everyone l.initial.waiting l.first - l.told
