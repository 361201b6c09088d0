use mathlib.Core.Path.{◌≡◌}
use Prim.Native.Nat.{◌-◌, ◌<◌}
use Rattle.model.specs.PathCount.{path_count}
use Rattle.graph.specs.declared.Graph.{Graph}
use Rattle.graph.specs.Model.{as_model}
use Rattle.visit.specs.Cells.{Ground, Laid, cell_of, Reached}
use Rattle.visit.proofs.descend.Given as goal

abbrev pub invariant-loop-c : goal.invariant-loop-c
invariant-loop-c l =
    ((g : Graph) → Ground g l.ways l.rows l.kind l.wcet l.share → Laid g l.edge l.start → l.k < path_count (as_model g) → Reached (as_model g) l.initial.cells l.depth l.k → Reached (as_model g) l.cells l.d l.k)
    × (l.c ≡ cell_of l.cells (l.d - 1))

abbrev pub decreases-loop-c : goal.decreases-loop-c
decreases-loop-c l = 128 - l.d
