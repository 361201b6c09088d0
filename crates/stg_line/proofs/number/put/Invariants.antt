use Rattle.stg_line.proofs.Laying.{Laying}
use Rattle.stg_line.proofs.number.put.Given as goal

abbrev pub invariant-loop-k : goal.invariant-loop-k
invariant-loop-k l = Laying l.initial.out l.at l.x l.k l.y l.out
