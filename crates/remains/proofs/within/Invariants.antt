use mathlib.Core.Path.{◌≡◌}
use Rattle.model.specs.Places.{every}
use Rattle.remains.specs.Remains.{no_more}
use Rattle.remains.proofs.within.Given as goal

abbrev pub invariant-loop-v : goal.invariant-loop-v
invariant-loop-v l = l.ok ≡ every (no_more l.fn.left l.wcet) l.v
