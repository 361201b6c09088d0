use Rattle.weights.proofs.Used.{Marked}
use Rattle.weights.proofs.volume.used_kinds.Given as goal

abbrev pub invariant-loop-s : goal.invariant-loop-s
invariant-loop-s l = Marked l.kind l.used l.s-index
