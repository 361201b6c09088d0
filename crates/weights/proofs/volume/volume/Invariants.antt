use mathlib.Core.Path.{◌≡◌}
use Prim.Native.Nat.{◌*◌, ◌/◌, ◌≤◌}
use lib.ListN.{get_or}
use Rattle.model.specs.Places.{sum}
use Rattle.model.specs.Bounds.{PARTS, vol}
use Rattle.weights.specs.Weight.{stages}
use Rattle.weights.proofs.volume.volume.Given as goal

abbrev pub invariant-loop-s : goal.invariant-loop-s
invariant-loop-s l =
    ((l.total.0 ≤ 92252160000000 * l.s) × (l.total.0 ≡ sum (λ k. vol (stages l.kind l.wcet l.cores l.kinds l.n) k * PARTS / get_or l.cores k 0) l.s))
