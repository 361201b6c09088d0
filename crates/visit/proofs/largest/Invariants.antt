use mathlib.Core.Path.{◌≡◌}
use Prim.Native.Nat.{◌-◌, ◌≤◌}
use Rattle.model.specs.PathCount.{path_count}
use Rattle.graph.specs.declared.Graph.{Graph}
use Rattle.graph.specs.Model.{as_model}
use Rattle.paths.specs.Ahead.{Sources}
use Rattle.visit.specs.Cells.{Ground, Laid}
use Rattle.visit.proofs.Walking.{Visited}
use Rattle.visit.proofs.largest.Given as goal

abbrev pub invariant-loop-k : goal.invariant-loop-k
invariant-loop-k l =
    (g : Graph) → Ground g l.ways l.rows l.kind l.wcet l.share → Laid g l.edge l.start → Sources g l.led → l.n ≡ g.n → l.count ≡ path_count (as_model g) → Visited (as_model g) l.cells l.best l.depth l.k
