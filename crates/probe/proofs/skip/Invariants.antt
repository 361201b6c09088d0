use mathlib.Core.Path.{◌≡◌}
use lib.ListN.{length}
use Rattle.probe.proofs.skip.Given as goal

abbrev pub invariant-loop-left : goal.invariant-loop-left
invariant-loop-left l = length l.space ≡ length l.initial.space

abbrev pub decreases-loop-left : goal.decreases-loop-left
decreases-loop-left l = l.left
