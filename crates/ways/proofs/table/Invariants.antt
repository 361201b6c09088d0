use mathlib.Core.List.{[]}
use Rattle.graph.specs.declared.Graph.{Graph}
use Rattle.paths.specs.Ahead.{Weighed}
use Rattle.ways.proofs.Counting.{Counting}
use Rattle.ways.proofs.table.Given as goal

abbrev pub invariant-loop-j : goal.invariant-loop-j
invariant-loop-j l =
    (g : Graph) (T : Weighed g l.edge l.start l.order l.n []) → Counting T l.ways l.j
