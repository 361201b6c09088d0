use mathlib.Core.List.{[]}
use Prim.Native.Nat.{◌-◌, ◌≤◌}
use Rattle.graph.specs.declared.Graph.{Graph}
use Rattle.paths.specs.Ahead.{Weighed}
use Rattle.parallel.proofs.Reaching.{Reaching}
use Rattle.parallel.proofs.descendants.descendants.Given as goal

abbrev pub invariant-loop-j : goal.invariant-loop-j
invariant-loop-j l =
    (g : Graph) (T : Weighed g l.edge l.start l.order l.n []) → Reaching T l.t l.j
