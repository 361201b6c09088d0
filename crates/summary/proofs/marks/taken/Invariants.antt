use mathlib.Core.Path.{◌≡◌}
use mathlib.Core.Bool.{false, ◌||◌}
use lib.ListN.{get_or}
use Rattle.model.specs.Places.{any}
use Rattle.summary.specs.Row.{nth}
use Rattle.summary.proofs.marks.taken.Given as goal

abbrev pub invariant-loop-k : goal.invariant-loop-k
invariant-loop-k l = l.marked ≡ (get_or l.marks l.u false || any (λ k. get_or l.marks (nth l.edge l.start l.u k) false) l.k)
