use Rattle.weights.proofs.Volumes.{Added}
use Rattle.weights.proofs.volume.vols.Given as goal

abbrev pub invariant-loop-v : goal.invariant-loop-v
invariant-loop-v l = Added l.kind l.wcet l.cores l.kinds l.sums l.v
