use mathlib.Core.List.{List}
use Prim.Native.Nat.{ℕ}
use Rattle.graph.specs.declared.Graph.{Graph}
use Rattle.paths.specs.Ahead.{Weighed}
use Rattle.summary.proofs.Marking.{Backwards}
use Rattle.summary.proofs.marks.behind.Given as goal

abbrev pub invariant-loop-j : goal.invariant-loop-j
invariant-loop-j l =
    (g : Graph) (w : List ℕ) (T : Weighed g l.edge l.start l.order l.n w) → Backwards T l.v l.marks l.j
