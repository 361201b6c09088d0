use Prim.Native.Nat.{◌-◌}
use lib.ListN.{length}
use Rattle.faults.proofs.Lines.{Passing}
use Rattle.faults.proofs.of_lines.Given as goal

abbrev pub invariant-loop-at : goal.invariant-loop-at
invariant-loop-at l = Passing l.t l.at

abbrev pub decreases-loop-at : goal.decreases-loop-at
decreases-loop-at l = length l.t - l.at
