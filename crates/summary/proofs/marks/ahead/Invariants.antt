use mathlib.Core.List.{List}
use Prim.Native.Nat.{ℕ}
use Rattle.graph.specs.declared.Graph.{Graph}
use Rattle.paths.specs.Ahead.{Weighed}
use Rattle.summary.proofs.Marking.{Onwards}
use Rattle.summary.proofs.marks.ahead.Given as goal

abbrev pub invariant-loop-j : goal.invariant-loop-j
invariant-loop-j l =
    (g : Graph) (w : List ℕ) (T : Weighed g l.edge l.start l.order l.n w) → Onwards T l.v l.marks l.j
