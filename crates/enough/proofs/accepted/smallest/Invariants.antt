use Prim.Native.Nat.{◌-◌}
use Rattle.graph.specs.Model.{as_model}
use Rattle.enough.specs.Halving.{Between}
use Rattle.enough.proofs.accepted.smallest.Given as goal

abbrev pub invariant-loop-span : goal.invariant-loop-span
invariant-loop-span l = Between (as_model l.laid.graph) l.s l.limit l.span.low l.span.high

abbrev pub decreases-loop-span : goal.decreases-loop-span
decreases-loop-span l = l.span.high - l.span.low
