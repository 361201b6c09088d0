use mathlib.Core.Path.{◌≡◌}
use Prim.Native.Nat.{◌*◌, ◌≤◌}
use Rattle.model.specs.Places.{sum}
use Rattle.remains.specs.Remains.{place}
use Rattle.remains.proofs.total.Given as goal

abbrev pub invariant-loop-ticks : goal.invariant-loop-ticks
invariant-loop-ticks l = (l.got ≡ sum (place l.fn.left) l.ticks-index) × (l.got ≤ 4294967296 * l.ticks-index)
