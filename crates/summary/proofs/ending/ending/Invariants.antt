use Rattle.graph.specs.declared.Graph.{Graph}
use Rattle.graph.specs.Model.{as_model}
use Rattle.paths.specs.Ahead.{weigh, Weighed}
use Rattle.summary.specs.Tables.{EndsBut}
use Rattle.summary.proofs.Forward.{Forward}
use Rattle.summary.proofs.ending.ending.Given as goal

abbrev pub invariant-loop-j : goal.invariant-loop-j
invariant-loop-j l =
    (g : Graph) (T : Weighed g l.edge l.start l.order l.n l.weight) → EndsBut (as_model g) (weigh l.weight) l.mark l.initial.sums → Forward T l.mark l.sums l.j
