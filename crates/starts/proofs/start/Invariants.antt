use Prim.Native.Nat.{◌≤◌}
use Rattle.starts.specs.Starts.{start_in}
use Rattle.starts.proofs.start.Given as goal

abbrev pub invariant-loop-at : goal.invariant-loop-at
invariant-loop-at l = l.at ≤ start_in l.edge l.edges l.u
