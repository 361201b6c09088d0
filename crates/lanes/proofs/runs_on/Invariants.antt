use Rattle.lanes.proofs.Passing.{Unmet}
use Rattle.lanes.proofs.runs_on.Given as goal

abbrev pub invariant-loop-i : goal.invariant-loop-i
invariant-loop-i l = Unmet l.log l.k l.i
