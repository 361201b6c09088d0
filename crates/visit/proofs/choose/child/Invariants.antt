use mathlib.Core.Path.{◌≡◌}
use Prim.Native.Nat.{◌+◌, ◌-◌, ◌≤◌, ◌<◌}
use lib.ListN.{get_or}
use Rattle.model.specs.Places.{sum}
use Rattle.summary.specs.Row.{many, nth}
use Rattle.visit.proofs.choose.child.Given as goal

abbrev pub invariant-loop-j : goal.invariant-loop-j
invariant-loop-j l = (l.base ≡ l.first + sum (λ i. get_or l.ways (nth l.edge l.start l.u i) 0) l.j) × (l.base ≤ l.k)
