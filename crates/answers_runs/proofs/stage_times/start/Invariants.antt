use Prim.Native.Nat.{◌-◌}
use lib.ListN.{length}
use Rattle.answers_runs.proofs.stage_times.start.Given as goal

abbrev pub invariant-loop-i : goal.invariant-loop-i
invariant-loop-i l = Unit {0}

abbrev pub decreases-loop-i : goal.decreases-loop-i
decreases-loop-i l = length l.t - l.i
