use Rattle.sets.specs.Sets.{Holds}
use Rattle.rows.specs.Rows.{predecessor}
use Rattle.rows.proofs.predecessors.Given as goal

abbrev pub invariant-loop-i : goal.invariant-loop-i
invariant-loop-i l = Holds l.t (predecessor l.edge l.i)
