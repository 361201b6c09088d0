use Rattle.graph.specs.declared.Graph.{Graph}
use Rattle.gaining.specs.Gaining.{Gainable}
use Rattle.gaining.proofs.Gaining.{Swept}
use Rattle.gaining.proofs.table.gains.Given as goal

abbrev pub invariant-loop-p : goal.invariant-loop-p
invariant-loop-p l =
    (g : Graph) (M : Gainable g l.edge l.start l.order l.n l.weight l.wcet (record { ending = l.initial.list; starting = l.starting })) → Swept M l.p l.best l.top l.ended l.list
