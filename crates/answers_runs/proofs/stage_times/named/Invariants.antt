use Prim.Native.Nat.{◌-◌}
use lib.ListN.{length}
use Rattle.answers_runs.proofs.stage_times.named.Given as goal

abbrev pub invariant-loop-at : goal.invariant-loop-at
invariant-loop-at l = Unit {0}

abbrev pub decreases-loop-at : goal.decreases-loop-at
decreases-loop-at l = length l.t - l.at
