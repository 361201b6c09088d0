use mathlib.Core.Path.{◌≡◌}
use mathlib.Core.List.{[]}
use Prim.Native.Nat.{◌-◌, ◌≤◌}
use Rattle.graph.specs.declared.Graph.{Graph}
use Rattle.paths.specs.Ahead.{Weighed}
use Rattle.graph.specs.Model.{as_model}
use Rattle.sets.specs.Sets.{Holds}
use Rattle.rows.specs.Rows.{above}
use Rattle.parallel.proofs.Filling.{Filled}
use Rattle.parallel.proofs.beside.Given as goal

abbrev pub invariant-loop-v : goal.invariant-loop-v
invariant-loop-v l =
    (l.n ≤ 128) × ((g : Graph) → Weighed g l.edge l.start l.order l.n [] → g.kind ≡ l.kind → Holds l.anc (above (as_model g)) → Filled (as_model g) l.t l.v)
