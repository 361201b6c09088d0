use Rattle.graph.specs.declared.Graph.{Graph}
use Rattle.rows.specs.Gathered.{Lined}
use Rattle.rows.proofs.Learning.{Learnt}
use Rattle.rows.proofs.ancestors.Given as goal

abbrev pub invariant-loop-j : goal.invariant-loop-j
invariant-loop-j l = (g : Graph) (T : Lined g l.order l.n l.pred) → Learnt T l.t l.j
