use mathlib.Core.Path.{◌≡◌}
use Prim.Native.Nat.{min}
use lib.ListN.{get_or}
use Rattle.model.specs.Places.{sum}
use Rattle.summary.specs.Row.{nth}
use Rattle.ways.proofs.onward.Given as goal

abbrev pub invariant-loop-k : goal.invariant-loop-k
invariant-loop-k l =
    l.total ≡ min 4097 (sum (λ i. get_or l.ways (nth l.edge l.start l.u i) 0) l.k)
