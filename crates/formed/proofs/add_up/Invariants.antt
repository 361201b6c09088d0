use Rattle.formed.specs.Passing.{Clocked, Lasted}
use Rattle.formed.proofs.add_up.Given as goal

abbrev pub invariant-loop-k : goal.invariant-loop-k
invariant-loop-k l = Clocked l.n l.log l.k l.totals × Lasted l.log l.k l.lasts
